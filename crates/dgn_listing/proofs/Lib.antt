pub mod NumberTexts
pub mod CountsGrow
pub mod AttributeData
pub mod Listings
pub mod SpanEnds
pub mod LineFields
pub mod WorkedLines
