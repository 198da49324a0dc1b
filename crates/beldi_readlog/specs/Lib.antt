pub mod ReadLog
