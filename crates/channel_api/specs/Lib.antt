pub mod Routes
pub mod FaultTexts
pub mod ChannelBody
pub mod Replies
pub mod Named
