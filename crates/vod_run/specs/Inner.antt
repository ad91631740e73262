pub mod Events
pub mod Given
pub mod Vod
