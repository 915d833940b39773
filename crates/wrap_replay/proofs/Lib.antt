mod WorldSteps
mod OneEntry
mod HeldOutcomes
mod RustWorlds
