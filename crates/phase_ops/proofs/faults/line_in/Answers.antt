use Rattle.std.proofs.Common.{◌≡◌, ℕ, zero, suc, List, [], ◌∷◌, refl, slice_index_or, ◌<◌, length, arith}
use Rattle.std.proofs.lemmas.List.{length-map}
use Rattle.phase_ops.specs.declared.phase.Act.{Act}
use Rattle.phase_ops.specs.Faults.{lines}
use Rattle.phase_ops.proofs.faults.line_in.Goals as goal

there : (acts : List Act) (at : ℕ) → at < length (lines acts) → at < length acts
there acts at h = let e = length-map acts (λ (a : Act). a.line) in omega (arith, h, e)

pub bounds-acts-at : goal.bounds-acts-at
bounds-acts-at c = there c.args.acts.now c.args.at c.requires

pub bounds-acts-at-2 : goal.bounds-acts-at-2
bounds-acts-at-2 c = there c.args.acts.now c.args.at c.requires

line_at : (acts : List Act) (at : ℕ) (d : Act) → at < length acts → (slice_index_or acts at d).line ≡ slice_index_or (lines acts) at 0
line_at [] at d l = absurd (omega (arith, l))
line_at (a ∷ more) zero d l = refl
line_at (a ∷ more) (suc at) d l = line_at more at d (omega (arith, l))

pub returns : goal.returns
returns c = line_at c.args.acts.now c.args.at c.index-acts-at.result (there c.args.acts.now c.args.at c.requires)
