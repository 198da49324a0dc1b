pub mod KeptAhead
pub mod KeptLaws
pub mod KeptReplies
pub mod KeptRows
pub mod Less
pub mod Safe
pub mod StandsLess
