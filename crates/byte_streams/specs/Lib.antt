pub mod Devices
pub mod TestDevices
pub mod Handed
pub mod Stands
pub mod Fair
