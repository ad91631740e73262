pub mod PlainJoin
pub mod SegmentBytes
pub mod SegmentRuns
