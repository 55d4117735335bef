-- Two memories that agree on the cells that a strand loads let the same happen in it.
use Rattle.std.proofs.Common.{◌≡◌, inl, ℕ, suc, ◌+◌, ◌*◌, min, List, [], ◌∷◌, ◌++◌, map, length, get_or, set, sym, refl, ap, ◌∙◌, subst, arith, slice_index, length-set, get_or-set_other, get_or-set_same, ℤ, pos, ◌+ℤ◌, ◌*ℤ◌, int_div, int_rem}
use Rattle.std.specs.Int.{w64, cast_signed}
use mathlib.Core.Logic.{dite}
use native.Mathlib.Decide.{ℕ_discrete, dec_le}
use Rattle.std.proofs.lemmas.List.{set_past}
use Rattle.phase_ops.specs.declared.effect.Effect.{Effect}
use Rattle.phase_ops.specs.declared.effect.Effect.TheVariants.{Store, Least, Fault}
use Rattle.phase_ops.specs.declared.effect.Turn.{Turn}
use Rattle.phase_ops.specs.declared.effect.Turn.TheVariants.{Next, Shut, Fails, Does}
use Rattle.phase_ops.specs.declared.phase.Source.{Source}
use Rattle.phase_ops.specs.declared.phase.Source.TheVariants.{Fixed, Cell}
use Rattle.phase_ops.specs.declared.phase.Term.{Term}
use Rattle.phase_ops.specs.declared.phase.Address.{Address}
use Rattle.phase_ops.specs.declared.phase.Micro.{Micro}
use Rattle.phase_ops.specs.declared.phase.Micro.TheVariants as micro
use Rattle.phase_ops.specs.declared.phase.Act.{Act}
use Rattle.phase_ops.specs.Phases.{Cells, word, source, source_cells, register, terms, term_cells, cell_of, address, address_cells, looks, divisors, turn, over, Spot, Event, Makes, plain, went, ops_events, spot, acts_events, calm, last_event, value_events, loads}
use Rattle.phase_ops.specs.Laws.{Agree}
use Rattle.phase_ops.proofs.Members.{in_left, in_right}

pub agree_left : (xs ys : Cells) (cs ds : List ℕ) → Agree xs ys (cs ++ ds) → Agree xs ys cs
agree_left xs ys cs ds a = (a.0, λ c h. a.1 c (in_left c cs ds h))

pub agree_right : (xs ys : Cells) (cs ds : List ℕ) → Agree xs ys (cs ++ ds) → Agree xs ys ds
agree_right xs ys cs ds a = (a.0, λ c h. a.1 c (in_right c cs ds h))

-- ---- one op

pub source_same : (xs ys : Cells) (s : Source) → Agree xs ys (source_cells s) → source xs s ≡ source ys s
source_same xs ys (Fixed z) a = refl
source_same xs ys (Cell c) a = ap (cast_signed w64) (a.1 c (inl refl))

terms_same : (xs ys : Cells) (regs : List ℤ) (ts : List Term) → Agree xs ys (term_cells ts) → terms xs regs ts ≡ terms ys regs ts
terms_same xs ys regs [] a = refl
terms_same xs ys regs (t ∷ ts) a = λ i.
    register regs t.reg *ℤ source_same xs ys t.step (agree_left xs ys (source_cells t.step) (term_cells ts) a) i +ℤ terms_same xs ys regs ts (agree_right xs ys (source_cells t.step) (term_cells ts) a) i

address_same : (xs ys : Cells) (regs : List ℤ) (d : Address) → Agree xs ys (address_cells d) → address xs regs d ≡ address ys regs d
address_same xs ys regs d a = λ i.
    cell_of (source_same xs ys d.base (agree_left xs ys (source_cells d.base) (term_cells d.terms) a) i +ℤ terms_same xs ys regs d.terms (agree_right xs ys (source_cells d.base) (term_cells d.terms) a) i)

op_same : (xs ys : Cells) (regs : List ℤ) (op : Micro) → Agree xs ys (looks xs regs op) → (looks xs regs op ≡ looks ys regs op) × (divisors xs op ≡ divisors ys op)
op_same xs ys regs (micro.Load d) a = (ap (λ (c : ℕ). address_cells d ++ c ∷ []) (address_same xs ys regs d (agree_left xs ys (address_cells d) (address xs regs d ∷ []) a)), refl)
op_same xs ys regs (micro.Digit r b m) a = (refl, λ i. source_same xs ys b (agree_left xs ys (source_cells b) (source_cells m) a) i ∷ source_same xs ys m (agree_right xs ys (source_cells b) (source_cells m) a) i ∷ [])
op_same xs ys regs (micro.Fixed z) a = (refl, refl)
op_same xs ys regs micro.Position a = (refl, refl)
op_same xs ys regs (micro.Unary o r) a = (refl, refl)
op_same xs ys regs (micro.Binary o r s) a = (refl, refl)
op_same xs ys regs (micro.Select r s t) a = (refl, refl)
op_same xs ys regs (micro.Gate r) a = (refl, refl)
op_same xs ys regs (micro.FailIf n r) a = (refl, refl)
op_same xs ys regs (micro.Store d r) a = (refl, refl)
op_same xs ys regs (micro.Least d r) a = (refl, refl)

pub looks_same : (xs ys : Cells) (regs : List ℤ) (op : Micro) → Agree xs ys (looks xs regs op) → looks xs regs op ≡ looks ys regs op
looks_same xs ys regs op a = (op_same xs ys regs op a).0

divisors_same : (xs ys : Cells) (regs : List ℤ) (op : Micro) → Agree xs ys (looks xs regs op) → divisors xs op ≡ divisors ys op
divisors_same xs ys regs op a = (op_same xs ys regs op a).1

pub turn_same : (i : ℕ) (xs ys : Cells) (regs : List ℤ) (op : Micro) → Agree xs ys (looks xs regs op) → turn i xs regs op ≡ turn i ys regs op
turn_same i xs ys regs (micro.Digit r b m) a = λ k. Next (int_rem (int_div (register regs r) (source_same xs ys b (agree_left xs ys (source_cells b) (source_cells m) a) k)) (source_same xs ys m (agree_right xs ys (source_cells b) (source_cells m) a) k))
turn_same i xs ys regs (micro.Load d) a =
    let at = address_same xs ys regs d (agree_left xs ys (address_cells d) (address xs regs d ∷ []) a) in
    ap (λ (n : ℕ). Next (cast_signed w64 n)) (a.1 (address xs regs d) (in_right (address xs regs d) (address_cells d) (address xs regs d ∷ []) (inl refl)) ∙ ap (λ (c : ℕ). slice_index ys c) at)
turn_same i xs ys regs (micro.Fixed z) a = refl
turn_same i xs ys regs micro.Position a = refl
turn_same i xs ys regs (micro.Unary o r) a = refl
turn_same i xs ys regs (micro.Binary o r s) a = refl
turn_same i xs ys regs (micro.Select r s t) a = refl
turn_same i xs ys regs (micro.Gate r) a = refl
turn_same i xs ys regs (micro.FailIf n r) a = refl
turn_same i xs ys regs (micro.Store d r) a = ap (λ (c : ℕ). Does (Store c (word (register regs r)))) (address_same xs ys regs d a)
turn_same i xs ys regs (micro.Least d r) a = ap (λ (c : ℕ). Does (Least c (word (register regs r)))) (address_same xs ys regs d a)

-- ---- laying over both

set_both : (xs ys : Cells) (d v w c : ℕ) → length xs ≡ length ys → (d ≡ c → v ≡ w) → slice_index xs c ≡ slice_index ys c → slice_index (set xs d v) c ≡ slice_index (set ys d w) c
set_both xs ys d v w c n e s = dite (ℕ_discrete d c)
    (λ here. dite (dec_le (length xs) d)
    (λ big. ap (λ (zs : Cells). slice_index zs c) (set_past xs d v big) ∙ s ∙ sym (ap (λ (zs : Cells). slice_index zs c) (set_past ys d w (omega (arith, n, big)))))
    (λ small. subst (λ (z : ℕ). get_or (set xs d v) z 0 ≡ get_or (set ys d w) z 0) here (get_or-set_same xs d v 0 (omega arith) ∙ e here ∙ sym (get_or-set_same ys d w 0 (omega arith)))))
    (λ other. get_or-set_other xs d c v 0 (λ z. other (sym z)) ∙ s ∙ sym (get_or-set_other ys d c w 0 (λ z. other (sym z))))

pub over_length : (e : Effect) (xs : Cells) → length (over e xs) ≡ length xs
over_length (Store d v) xs = length-set xs d v
over_length (Least d v) xs = length-set xs d (min (slice_index xs d) v)
over_length (Fault k) xs = refl

pub over_both : (e : Effect) (xs ys : Cells) (c : ℕ) → length xs ≡ length ys → slice_index xs c ≡ slice_index ys c → slice_index (over e xs) c ≡ slice_index (over e ys) c
over_both (Store d v) xs ys c n s = set_both xs ys d v v c n (λ _. refl) s
over_both (Least d v) xs ys c n s = set_both xs ys d (min (slice_index xs d) v) (min (slice_index ys d) v) c n (λ e. ap (λ (z : ℕ). min z v) (subst (λ (z : ℕ). slice_index xs z ≡ slice_index ys z) (sym e) s)) s
over_both (Fault k) xs ys c n s = s

pub over_agree : (e : Effect) (xs ys : Cells) (cs : List ℕ) → Agree xs ys cs → Agree (over e xs) (over e ys) cs
over_agree e xs ys cs a = (over_length e xs ∙ a.0 ∙ sym (over_length e ys), λ c h. over_both e xs ys c a.0 (a.1 c h))

-- ---- the ops of an act

pub loads_plain : (cs : List ℕ) (ds : List ℤ) (es : List Event) → loads (plain cs ds es) ≡ cs ++ loads es
loads_plain [] [] es = refl
loads_plain [] (d ∷ ds) es = loads_plain [] ds es
loads_plain (c ∷ cs) ds es = ap (λ (l : List ℕ). c ∷ l) (loads_plain cs ds es)

abbrev pub SameNext : (Cells → ℤ → List Event) → Type 0
SameNext next = (xs ys : Cells) (z : ℤ) → Agree xs ys (loads (next xs z)) → next xs z ≡ next ys z

abbrev pub SameRest : (Cells → List ℤ → List Event) → Type 0
SameRest rest = (xs ys : Cells) (regs : List ℤ) → Agree xs ys (loads (rest xs regs)) → rest xs regs ≡ rest ys regs

went_same : (k : ℕ) (next : Cells → ℤ → List Event) (rest : Cells → List ℤ → List Event) (t : Turn) (xs ys : Cells) → SameNext next → SameRest rest → Agree xs ys (loads (went k xs next rest t)) → went k xs next rest t ≡ went k ys next rest t
went_same k next rest (Next z) xs ys n r a = n xs ys z a
went_same k next rest Shut xs ys n r a = r xs ys [] a
went_same k next rest (Fails f) xs ys n r a = refl
went_same k next rest (Does e) xs ys n r a = ap (λ (es : List Event). Makes e ∷ es) (n (over e xs) (over e ys) (pos 0) (over_agree e xs ys (loads (next (over e xs) (pos 0))) a))

pub ops_same : (s : Spot) (ops : List Micro) (regs : List ℤ) (rest : Cells → List ℤ → List Event) → SameRest rest → (xs ys : Cells) → Agree xs ys (loads (ops_events s ops xs regs rest)) → ops_events s ops xs regs rest ≡ ops_events s ops ys regs rest
ops_same s [] regs rest r xs ys a = r xs ys regs a
ops_same s (op ∷ ops) regs rest r xs ys a =
    let k : ℕ = ((s.act * 1048576 + length regs) * 1048576 + s.element) * 16 in
    let next : Cells → ℤ → List Event = λ m z. ops_events s ops m (regs ++ z ∷ []) rest in
    let t : Turn = turn s.iteration xs regs op in
    let split = subst (λ (l : List ℕ). Agree xs ys l) (loads_plain (looks xs regs op) (divisors xs op) (went k xs next rest t)) a in
    let here = agree_left xs ys (looks xs regs op) (loads (went k xs next rest t)) split in
    let there = agree_right xs ys (looks xs regs op) (loads (went k xs next rest t)) split in
    let tail : went k xs next rest t ≡ went k ys next rest t = went_same k next rest t xs ys (λ xs' ys' z. ops_same s ops (regs ++ z ∷ []) rest r xs' ys') r there in
    (λ i. plain (looks_same xs ys regs op here i) (divisors_same xs ys regs op here i) (tail i))
    ∙ ap (λ (t' : Turn). plain (looks ys regs op) (divisors ys op) (went k ys next rest t')) (turn_same s.iteration xs ys regs op here)

pub acts_same : (i k : ℕ) (acts : List Act) (xs ys : Cells) → Agree xs ys (loads (acts_events i k acts xs)) → acts_events i k acts xs ≡ acts_events i k acts ys
acts_same i k [] xs ys a = refl
acts_same i k (x ∷ more) xs ys a = ops_same (spot k x i) x.ops [] (λ m' regs. acts_events i (suc k) more m') (λ xs' ys' regs. acts_same i (suc k) more xs' ys') xs ys a

pub value_same : (x : Act) (i : ℕ) (xs ys : Cells) → Agree xs ys (loads (value_events x xs i)) → value_events x xs i ≡ value_events x ys i
value_same x i xs ys a = ops_same (spot 0 x i) (map calm x.ops) [] (λ m' regs. last_event regs) (λ xs' ys' regs b. refl) xs ys a
