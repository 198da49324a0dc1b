mod LateFailure
mod StoredRows
