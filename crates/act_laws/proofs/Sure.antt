-- Ops that give a number at every place.
use Rattle.std.proofs.Common.{◌≡◌, arith, inl, refl, sym, ap, ◌∙◌, subst, ℕ, List, [], ◌∷◌, None, Ok, ℤ, pos, ◌<ℤ◌}
use Rattle.phase_ops.specs.declared.phase.Micro.{Micro}
use Rattle.phase_ops.specs.Phases.{looks, divisors}
use Rattle.phase_ops.specs.Free.{In}
use Rattle.act_laws.specs.Together.{Files, Scene, number_in, gives_at, with_ops, stop_at, Level, Follows, well}
use Rattle.act_laws.specs.Seats.{Has}
use Rattle.act_laws.proofs.Following.{Level-with_op, newest, kept, length_grows, each_all}

pub has_later : (s : Scene) (at : List ℕ) (reg : ℕ) (f : ℕ → ℤ) (files : Files) (ops : List Micro) → Has at reg f files → Has at reg f (with_ops s ops files)
has_later s at reg f files ops h p i = (kept s files ops p reg (h p i).1 ∙ (h p i).0, length_grows s files ops p reg (h p i).1)

module _ (s : Scene) (at : List ℕ) (k : ℕ) (files : Files) (level : Level k files) where
  pub sure : (op : Micro) (f : ℕ → ℤ) → ((p : ℕ) → In p at → gives_at s files op p ≡ Ok (f p))
      → ((p : ℕ) → In p at → ((c : ℕ) → In c (looks s.cells (files p) op) → In c s.may) × ((z : ℤ) → In z (divisors s.cells op) → pos 0 <ℤ z))
      → Follows s at k files (op ∷ []) well (λ n after. Has at k f after)
  sure op f gives may = record {
    ends = (
      ap (λ q. stop_at k q None) (each_all (gives_at s files op) f at gives),
      λ p i. (newest s k files op p level ∙ ap number_in (gives p i), let e = Level-with_op s k files op level p in omega (arith, e)),
    );
    reads = λ p e. let m = may p (subst (λ ps. In p ps) (sym e) (inl refl)) in (m.0, m.1, λ z g. tt);
  }
