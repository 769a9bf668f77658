mod Digits
mod Members
mod Fronts
