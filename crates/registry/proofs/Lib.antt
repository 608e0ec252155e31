mod EventLemmas
mod FleetLemmas
mod ObserveLemmas
mod RunLemmas
mod StepLemmas
