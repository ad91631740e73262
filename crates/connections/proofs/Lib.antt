pub mod Held
pub mod Served
pub mod Leading
pub mod Seated
pub mod Turning
pub mod FewCalls
mod Isolated
mod Sent
mod TurnOrder
mod Lined
pub mod Calling
mod FirstBytes
