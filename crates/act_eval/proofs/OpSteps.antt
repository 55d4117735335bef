-- One op of an act.
use Rattle.std.proofs.Common.{◌≡◌, ◌⊎◌, inl, inr, ℕ, suc, ◌+◌, ◌*◌, ◌<◌, List, [], ◌∷◌, ◌++◌, length, drop, sym, refl, ap, ◌∙◌, subst, arith, slice_index_or, drop-cons, ℤ, pos, ◌<ℤ◌}
use Rattle.phase_ops.specs.declared.effect.Effect.{Effect}
use Rattle.phase_ops.specs.declared.effect.Effect.TheVariants.{Store, Least, Fault}
use Rattle.phase_ops.specs.declared.effect.Turn.{Turn}
use Rattle.phase_ops.specs.declared.effect.Turn.TheVariants.{Fails, Does}
use Rattle.ws_base.specs.declared.fault.FaultName.{FaultName}
use Rattle.phase_ops.specs.declared.phase.Micro.{Micro}
use Rattle.phase_ops.specs.declared.phase.Micro.TheVariants as micro
use Rattle.ws_base.specs.Words.{fault_number}
use Rattle.phase_ops.proofs.Keys.{makes_plain}
use Rattle.phase_ops.specs.Phases.{Cells, address, address_cells, looks, divisors, turn, over, Spot, Event, plain, went, ops_events, loads, makes, divides}
use Rattle.phase_ops.specs.Free.{In, stored, lessened}
use Rattle.phase_ops.proofs.Members.{in_left, in_right}
use Rattle.phase_ops.proofs.Frame.{loads_plain}
use Rattle.act_eval.specs.Sites.{View, Small, Comes, Rest, named_cells}

pub divides_plain : (cs : List ℕ) (ds : List ℤ) (es : List Event) → divides (plain cs ds es) ≡ ds ++ divides es
divides_plain [] [] es = refl
divides_plain [] (d ∷ ds) es = ap (λ (l : List ℤ). d ∷ l) (divides_plain [] ds es)
divides_plain (c ∷ cs) ds es = divides_plain cs ds es

module _ (v : View) (cs : List ℕ) (ds : List ℤ) (es : List Event) (more : List Effect) (h : Comes v (plain cs ds es) more) where
  pub may_look : (c : ℕ) → In c cs → In c v.may × Small c
  may_look c i = h.may_load c (subst (λ (l : List ℕ). In c l) (sym (loads_plain cs ds es)) (in_left c cs (loads es) i))

  pub is_positive : (z : ℤ) → In z ds → pos 0 <ℤ z
  is_positive z i = h.positive z (subst (λ (l : List ℤ). In z l) (sym (divides_plain cs ds es)) (in_left z ds (divides es) i))

  pub then_comes : Comes v es more
  then_comes = record {
    left_is = h.left_is ∙ ap (λ (l : List Effect). l ++ more) (makes_plain cs ds es);
    may_load = λ c i. h.may_load c (subst (λ (l : List ℕ). In c l) (sym (loads_plain cs ds es)) (in_right c cs (loads es) i));
    small = λ c i. h.small c (subst (λ (l : List Effect). In c (stored l) ⊎ In c (lessened l)) (sym (makes_plain cs ds es)) i);
    positive = λ z i. h.positive z (subst (λ (l : List ℤ). In z l) (sym (divides_plain cs ds es)) (in_right z ds (divides es) i));
  }

abbrev base : Spot → List ℤ → ℕ
base s regs = ((s.act * 1048576 + length regs) * 1048576 + s.element) * 16

abbrev next_of : Spot → List Micro → List ℤ → Rest → Cells → ℤ → List Event
next_of s ops regs rest m z = ops_events s ops m (regs ++ z ∷ []) rest

-- the op and those after it are to come
abbrev pub Before : Spot → View → Micro → List Micro → List ℤ → Rest → List Effect → Type 0
Before s v op ops regs rest more = Comes v (ops_events s (op ∷ ops) v.cells regs rest) more

pub opened : (s : Spot) (v : View) (ops : List Micro) (at : ℕ) (d : Micro) (regs : List ℤ) (rest : Rest) (more : List Effect) → at < length ops → Comes v (ops_events s (drop at ops) v.cells regs rest) more
    → Before s v (slice_index_or ops at d) (drop (at + 1) ops) regs rest more
opened s v ops at d regs rest more l h = subst (λ (os : List Micro). Comes v (ops_events s os v.cells regs rest) more) (drop-cons ops at d l ∙ ap (λ (n : ℕ). slice_index_or ops at d ∷ drop n ops) (let e : suc at ≡ at + 1 = omega arith in e)) h

module _ (s : Spot) (v : View) (op : Micro) (ops : List Micro) (regs : List ℤ) (rest : Rest) (more : List Effect) (h : Before s v op ops regs rest more) where
  abbrev follows : Turn → List Event
  follows t = went (base s regs) v.cells (next_of s ops regs rest) rest t

  pub may_looks : (c : ℕ) → In c (looks v.cells regs op) → In c v.may × Small c
  may_looks = may_look v (looks v.cells regs op) (divisors v.cells op) (follows (turn s.iteration v.cells regs op)) more h

  pub all_positive : (z : ℤ) → In z (divisors v.cells op) → pos 0 <ℤ z
  all_positive = is_positive v (looks v.cells regs op) (divisors v.cells op) (follows (turn s.iteration v.cells regs op)) more h

  follow : Comes v (follows (turn s.iteration v.cells regs op)) more
  follow = then_comes v (looks v.cells regs op) (divisors v.cells op) (follows (turn s.iteration v.cells regs op)) more h

  pub follow_turn : (t : Turn) → t ≡ turn s.iteration v.cells regs op → Comes v (follows t) more
  follow_turn t e = subst (λ (t' : Turn). Comes v (follows t') more) (sym e) follow

  pub named_small : (c : ℕ) → In c (named_cells v.cells regs op) → Small c
  named_small c i = by op refl i
    where
      by : (o : Micro) → op ≡ o → In c (named_cells v.cells regs o) → Small c
      by (micro.Load a) e (inl i) = (may_looks c (subst (λ (o : Micro). In c (looks v.cells regs o)) (sym e) (in_right c (address_cells a) (address v.cells regs a ∷ []) (inl i)))).1
      by (micro.Store a r) e (inl i) = (subst (λ (o : Micro). Comes v (follows (turn s.iteration v.cells regs o)) more) e follow).small c (inl (inl i))
      by (micro.Least a r) e (inl i) = (subst (λ (o : Micro). Comes v (follows (turn s.iteration v.cells regs o)) more) e follow).small c (inr (inl i))
      by (micro.Load a) e (inr i) = elim i [ ]
      by (micro.Store a r) e (inr i) = elim i [ ]
      by (micro.Least a r) e (inr i) = elim i [ ]
      by (micro.Fixed z) e i = elim i [ ]
      by micro.Position e i = elim i [ ]
      by (micro.Digit r b m) e i = elim i [ ]
      by (micro.Unary o r) e i = elim i [ ]
      by (micro.Binary o r q) e i = elim i [ ]
      by (micro.Select r q t) e i = elim i [ ]
      by (micro.Gate r) e i = elim i [ ]
      by (micro.FailIf n r) e i = elim i [ ]

  pub fault_next : (n : FaultName) → Fails n ≡ turn s.iteration v.cells regs op → v.left ≡ Fault (base s regs + fault_number n) ∷ more
  fault_next n e = (follow_turn (Fails n) e).left_is

  pub effect_next : (e : Effect) → Does e ≡ turn s.iteration v.cells regs op → v.left ≡ e ∷ (makes (next_of s ops regs rest (over e v.cells) (pos 0)) ++ more)
  effect_next e q = (follow_turn (Does e) q).left_is

  pub effect_done : (e : Effect) (v' : View) → Does e ≡ turn s.iteration v.cells regs op
      → ((more' : List Effect) → v.left ≡ e ∷ more' → v' ≡ record { left = more'; cells = over e v.cells; may = v.may })
      → Comes v' (ops_events s ops v'.cells (regs ++ pos 0 ∷ []) rest) more
  effect_done e v' q told =
      let es : List Event = next_of s ops regs rest (over e v.cells) (pos 0) in
      let w : View = record { left = makes es ++ more; cells = over e v.cells; may = v.may } in
      let is : v' ≡ w = told (makes es ++ more) (effect_next e q) in
      let c = follow_turn (Does e) q in
      subst (λ (z : View). Comes z (ops_events s ops z.cells (regs ++ pos 0 ∷ []) rest) more) (sym is) (record {
        left_is = refl;
        may_load = c.may_load;
        small = λ n i. c.small n (wider e es n i);
        positive = c.positive;
      })
    where
      wider : (e : Effect) (es : List Event) (n : ℕ) → In n (stored (makes es)) ⊎ In n (lessened (makes es)) → In n (stored (e ∷ makes es)) ⊎ In n (lessened (e ∷ makes es))
      wider (Store c x) es n (inl i) = inl (inr i)
      wider (Store c x) es n (inr i) = inr i
      wider (Least c x) es n (inl i) = inl i
      wider (Least c x) es n (inr i) = inr (inr i)
      wider (Fault k) es n i = i

pub moved : (s : Spot) (v v' : View) (ops : List Micro) (regs : List ℤ) (rest : Rest) (more : List Effect) → v' ≡ v → Comes v (ops_events s ops v.cells regs rest) more → Comes v' (ops_events s ops v'.cells regs rest) more
moved s v v' ops regs rest more e h = subst (λ (z : View). Comes z (ops_events s ops z.cells regs rest) more) (sym e) h

pub moved_rest : (v v' : View) (regs : List ℤ) (rest : Rest) (more : List Effect) → v' ≡ v → Comes v (rest v.cells regs) more → Comes v' (rest v'.cells regs) more
moved_rest v v' regs rest more e h = subst (λ (z : View). Comes z (rest z.cells regs) more) (sym e) h

pub opened_at : (s : Spot) (v : View) (ops : List Micro) (at : ℕ) (r : Micro) (regs : List ℤ) (rest : Rest) (more : List Effect) → r ≡ slice_index_or ops at r → at < length ops → Comes v (ops_events s (drop at ops) v.cells regs rest) more
    → Before s v r (drop (at + 1) ops) regs rest more
opened_at s v ops at r regs rest more e l h = subst (λ (o : Micro). Before s v o (drop (at + 1) ops) regs rest more) (sym e) (opened s v ops at r regs rest more l h)

-- the same of the op at this place of the act's
module _ (s : Spot) (v : View) (all : List Micro) (at : ℕ) (op : Micro) (regs : List ℤ) (rest : Rest) (more : List Effect) (is : op ≡ slice_index_or all at op) (l : at < length all)
    (h : Comes v (ops_events s (drop at all) v.cells regs rest) more) where
  pub looks_at : (c : ℕ) → In c (looks v.cells regs op) → In c v.may × Small c
  looks_at = may_looks s v op (drop (at + 1) all) regs rest more (opened_at s v all at op regs rest more is l h)

  pub named_at : (c : ℕ) → In c (named_cells v.cells regs op) → Small c
  named_at = named_small s v op (drop (at + 1) all) regs rest more (opened_at s v all at op regs rest more is l h)

  pub fault_at : (n : FaultName) → Fails n ≡ turn s.iteration v.cells regs op → v.left ≡ Fault (base s regs + fault_number n) ∷ more
  fault_at = fault_next s v op (drop (at + 1) all) regs rest more (opened_at s v all at op regs rest more is l h)

  pub effect_at : (e : Effect) → Does e ≡ turn s.iteration v.cells regs op → v.left ≡ e ∷ (makes (next_of s (drop (at + 1) all) regs rest (over e v.cells) (pos 0)) ++ more)
  effect_at = effect_next s v op (drop (at + 1) all) regs rest more (opened_at s v all at op regs rest more is l h)
