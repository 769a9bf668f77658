mod Advising
mod Fronts
mod Refusing
mod Taking
mod Reading
