mod Layers
mod Carries
mod Disturbs
