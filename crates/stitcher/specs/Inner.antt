pub mod Making
pub mod Cuts
pub mod StitchedSegments
