mod Associated
mod Past
