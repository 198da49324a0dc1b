pub mod InvokeLog
