mod RunLemmas
mod WalkedLemmas
