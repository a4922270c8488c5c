mod Classes
mod Divisions
mod Lexed
mod Longest
mod Pieces
mod Prefixes
mod Scan
