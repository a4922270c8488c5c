pub mod HomesHeld
pub mod PlacesFound
pub mod Programs
pub mod SlotsHeld
pub mod Values
