pub mod Channel
pub mod ChannelLaws
pub mod GivenLaws
pub mod Inner
pub mod LastText
pub mod FaultTexts
