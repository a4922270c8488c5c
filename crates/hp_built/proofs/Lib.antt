mod FormConstructs
mod LeastPlaces
mod WalkLemmas
