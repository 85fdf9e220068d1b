mod Facts
mod Firsts
mod Tests
mod Exits
mod Nexts
