pub mod Owed
pub mod DateRangeParts
pub mod KeyParts
pub mod Taken
pub mod Room
pub mod Laid
pub mod Changes
