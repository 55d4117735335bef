-- One act of a strand.
use Rattle.std.proofs.Common.{◌≡◌, ℕ, suc, ◌+◌, ◌<◌, cond, List, [], ◌∷◌, length, drop, sym, refl, ◌∙◌, subst, arith, slice_index_or, drop-cons, ℤ}
use Rattle.phase_ops.specs.declared.effect.Effect.{Effect}
use Rattle.phase_ops.specs.declared.phase.Micro.{Micro}
use Rattle.phase_ops.specs.declared.phase.Act.{Act}
use Rattle.phase_ops.specs.Phases.{ops_events, acts_events}
use Rattle.act_eval.specs.declared.site.End.{End}
use Rattle.act_eval.specs.declared.site.End.TheVariants.{Ran, Closed, Failed}
use Rattle.act_eval.specs.Sites.{View, Comes, Rest, Ended, spot_of}

abbrev pub rest_of : ℕ → ℕ → List Act → Rest
rest_of it at acts m regs = acts_events it (at + 1) (drop (at + 1) acts) m

pub act_opened : (it at element : ℕ) (acts : List Act) (a : Act) (ops : List Micro) (v : View) (more : List Effect) → a ≡ slice_index_or acts at a → at < length acts → element ≡ cond a.whole 0 (suc it) → ops ≡ a.ops
    → Comes v (acts_events it at (drop at acts) v.cells) more → Comes v (ops_events (spot_of at element it) ops v.cells [] (rest_of it at acts)) more
act_opened it at element acts a ops v more e l q o h =
    let step : suc at ≡ at + 1 = omega arith in
    let cut : drop at acts ≡ a ∷ drop (at + 1) acts = drop-cons acts at a l ∙ (λ i. sym e i ∷ drop (step i) acts) in
    let opened : Comes v (acts_events it at (a ∷ drop (at + 1) acts) v.cells) more = subst (λ (as' : List Act). Comes v (acts_events it at as' v.cells) more) cut h in
    subst (λ (x : ℕ × List Micro). Comes v (ops_events (spot_of at x.0 it) x.1 v.cells [] (rest_of it at acts)) more) (λ i. (sym q i, sym o i))
    (subst (λ (n : ℕ). Comes v (ops_events (spot_of at (cond a.whole 0 (suc it)) it) a.ops v.cells [] (λ m' regs. acts_events it n (drop (at + 1) acts) m')) more) step opened)

pub act_done : (it at : ℕ) (acts : List Act) (v : View) (regs : List ℤ) (more : List Effect) (e : End) → (e ≡ Failed → ⊥) → Ended v regs (rest_of it at acts) more e → Comes v (acts_events it (at + 1) (drop (at + 1) acts) v.cells) more
act_done it at acts v regs more Ran n h = h
act_done it at acts v regs more Closed n h = h
act_done it at acts v regs more Failed n h = absurd (n refl)
