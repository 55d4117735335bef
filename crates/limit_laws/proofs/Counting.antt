-- What ops of expressions add to the count of a statement.
use Rattle.std.proofs.Common.{◌≡◌, refl, ap, ◌∙◌, ℕ, suc, ◌+◌, ◌*◌, ◌≤◌, Bool, true, false, List, [], ◌∷◌, ◌++◌, length, arith, if◌then◌else◌}
use Rattle.hlfir_ops.specs.declared.what.What.{What}
use Rattle.hlfir_ops.specs.declared.what.What.TheVariants as what
use Rattle.hlfir_ops.specs.declared.op.ValueId.{ValueId}
use Rattle.hlfir_ops.specs.declared.op.Op.{Op, out-Op}
use Rattle.hlfir_ops.specs.RulesValues.{Value, is_whole, value_at}
use Rattle.hlfir_ops.specs.RulesLimits.{Count, with_reduction, with_whole, with_wholes, counted_as, counted, counted_all, size_of}
use Rattle.limit_laws.proofs.Costs.{sum_of, heavy, size, reduces, wholes, wholes_among, one_if}

abbrev pub if_so : Bool → ℕ → ℕ
if_so b n = if b then n else 0

abbrev pub if_not : Bool → ℕ → ℕ
if_not b n = if b then 0 else n

-- from one count to another by so many reductions, and vector subscripts evaluated whole
pub record Adds (c d : Count) (r w : ℕ) : Type 0 where
  pub phases : d.phases ≡ c.phases + (3 * r + 2 * w)
  pub temporaries : d.temporaries ≡ c.temporaries
  pub masks : d.masks ≡ c.masks
  pub held : d.held ≡ c.held + if_so c.masked w
  pub pending : d.pending ≡ c.pending + (r + if_not c.masked w)
  pub begun : c.begun ≡ true → d.begun ≡ true
  pub assigned : d.assigned ≡ c.assigned
  pub masked : d.masked ≡ c.masked

if_so-none : (b : Bool) → if_so b 0 ≡ 0
if_so-none true = refl
if_so-none false = refl

if_not-none : (b : Bool) → if_not b 0 ≡ 0
if_not-none true = refl
if_not-none false = refl

if_so-plus : (b : Bool) (m n : ℕ) → if_so b (m + n) ≡ if_so b m + if_so b n
if_so-plus true m n = refl
if_so-plus false m n = refl

if_not-plus : (b : Bool) (m n : ℕ) → if_not b (m + n) ≡ if_not b m + if_not b n
if_not-plus true m n = refl
if_not-plus false m n = refl

pub adds-none : (c : Count) → Adds c c 0 0
adds-none c = record {
  phases = omega arith;
  temporaries = refl;
  masks = refl;
  held = omega (arith, if_so-none c.masked);
  pending = omega (arith, if_not-none c.masked);
  begun = λ h. h;
  assigned = refl;
  masked = refl;
}

pub adds-more : (c d e : Count) (r w r' w' : ℕ) → Adds c d r w → Adds d e r' w' → Adds c e (r + r') (w + w')
adds-more c d e r w r' w' h g = record {
  phases = omega (arith, h.phases, g.phases);
  temporaries = g.temporaries ∙ h.temporaries;
  masks = g.masks ∙ h.masks;
  held = omega (arith, h.held, g.held, ap (λ b. if_so b w') h.masked, if_so-plus c.masked w w');
  pending = omega (arith, h.pending, g.pending, ap (λ b. if_not b w') h.masked, if_not-plus c.masked w w');
  begun = λ b. g.begun (h.begun b);
  assigned = g.assigned ∙ h.assigned;
  masked = g.masked ∙ h.masked;
}

whole_case : (m : Bool) (c : Count) → c.masked ≡ m → Adds c (if m then record c { phases = 2 + c.phases; held = 1 + c.held; begun = true } else record c { phases = 2 + c.phases; pending = 1 + c.pending; begun = true }) 0 1
whole_case true c is = record { phases = omega arith; temporaries = refl; masks = refl; held = omega (arith, ap (λ b. if_so b 1) is); pending = omega (arith, ap (λ b. if_not b 1) is); begun = λ h. refl; assigned = refl; masked = refl }
whole_case false c is = record { phases = omega arith; temporaries = refl; masks = refl; held = omega (arith, ap (λ b. if_so b 1) is); pending = omega (arith, ap (λ b. if_not b 1) is); begun = λ h. refl; assigned = refl; masked = refl }

adds-whole : (c : Count) → Adds c (with_whole c) 0 1
adds-whole c = whole_case c.masked c refl

adds-reduction : (c : Count) → Adds c (with_reduction c) 1 0
adds-reduction c = record { phases = omega arith; temporaries = refl; masks = refl; held = omega (arith, if_so-none c.masked); pending = omega (arith, if_not-none c.masked); begun = λ h. refl; assigned = refl; masked = refl }

module _ (vs : List Value) where
  operand_case : (b : Bool) (c : Count) → Adds c (if b then with_whole c else c) 0 (one_if b)
  operand_case true c = adds-whole c
  operand_case false c = adds-none c

  adds-operands : (c : Count) (os : List ValueId) → Adds c (with_wholes vs c os) 0 (wholes_among vs os)
  adds-operands c [] = adds-none c
  adds-operands c (v ∷ os) =
      let b = is_whole (value_at vs v) in
      adds-more c (if b then with_whole c else c) (with_wholes vs (if b then with_whole c else c) os) 0 (one_if b) 0 (wholes_among vs os) (operand_case b c) (adds-operands (if b then with_whole c else c) os)

  no_light : {P : Type 0} → 1 ≤ 0 → P
  no_light h = absurd (omega (arith, h))

  adds-as : (c : Count) (w : What) (os : List ValueId) (k : ℕ) → heavy w os ≤ 0 → Adds c (counted_as vs c w os k) (reduces w os) (wholes vs w os)
  adds-as c (what.Assign realloc) os k h = no_light h
  adds-as c what.Masked os k h = no_light h
  adds-as c what.Elsewhere os k h = no_light h
  adds-as c (what.Forall names) os k h = no_light h
  adds-as c what.ForallMask os k h = no_light h
  adds-as c (what.Reduce r) os k h = adds-reduction c
  adds-as c (what.Designate subs) os k h = adds-operands c os
  adds-as c _ os k h = adds-none c

  pub adds-light : (c : Count) (ops : List Op) → sum_of heavy ops ≤ 0 → Adds c (counted_all vs c ops) (sum_of reduces ops) (sum_of (wholes vs) ops)
  adds-light c [] h = adds-none c
  adds-light c (op ∷ ops) h =
      let w = (out-Op op).what in
      let os = (out-Op op).operands in
      let d = counted vs c op in
      adds-more c d (counted_all vs d ops) (reduces w os) (wholes vs w os) (sum_of reduces ops) (sum_of (wholes vs) ops) (adds-as c w os (length (out-Op op).regions) (omega (arith, h))) (adds-light d ops (omega (arith, h)))

  pub counted-append : (c : Count) (xs ys : List Op) → counted_all vs c (xs ++ ys) ≡ counted_all vs (counted_all vs c xs) ys
  counted-append c [] ys = refl
  counted-append c (x ∷ xs) ys = counted-append (counted vs c x) xs ys

pub size-is : (ops : List Op) → size_of ops ≡ sum_of size ops
size-is [] = refl
size-is (op ∷ ops) = ap (λ n. suc (length (out-Op op).operands) + n) (size-is ops)
