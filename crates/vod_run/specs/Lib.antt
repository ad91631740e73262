pub mod Events
pub mod Given
pub mod FaultTexts
pub mod Runs
pub mod Vod
pub mod Printed
pub mod Inner
