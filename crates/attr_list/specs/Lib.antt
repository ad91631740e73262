pub mod Attributes
pub mod Attrs
pub mod FaultTexts
pub mod Laws
pub mod Numbers
pub mod Scanning
pub mod Inner
