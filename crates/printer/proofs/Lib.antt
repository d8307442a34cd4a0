-- In reading order.
pub mod PrinterLaws
