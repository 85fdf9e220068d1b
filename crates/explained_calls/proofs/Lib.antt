mod Choices
mod Fronts
