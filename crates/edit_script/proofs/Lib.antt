mod Commas
mod NamedValues
mod FirstFault
mod Masks
mod Numerals
mod TextPieces
