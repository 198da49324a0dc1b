pub mod Exchange
pub mod Framing
pub mod GatewayLaws
pub mod HttpResponse
pub mod Route
pub mod Scan
pub mod Serve
pub mod Taking
