-- Text: words and decimal numbers, and what it means to put one piece behind another.
pub mod Decimal
pub mod Put
