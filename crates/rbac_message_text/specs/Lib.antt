pub mod StampText
pub mod MessageText
pub mod Message
pub mod RecordText
