mod Looks
mod Taking
