-- What stage 1 left of a value is told by the ops of its module.
use Rattle.std.proofs.Common.{◌≡◌, arith, refl, sym, ap, ◌∙◌, subst, ℕ, zero, suc, ◌==◌, ◌<◌, Bool, true, false, if◌then◌else◌, nat_lt, List, [], ◌∷◌, ◌++◌, map, All, Option, Some, None}
use Rattle.std.specs.Prelude.{slice_get}
use Rattle.std.proofs.lemmas.List.Elements.{All-head, All-tail}
use Rattle.hlfir_ops.specs.declared.what.What.{What}
use Rattle.hlfir_ops.specs.declared.what.What.TheVariants as what
use Rattle.hlfir_ops.specs.declared.op.ValueId.{ValueId}
use Rattle.hlfir_ops.specs.declared.op.Op.{Op, out-Op}
use Rattle.hlfir_ops.specs.declared.op.Region.{Region}
use Rattle.hlfir_ops.specs.RulesRegions.{ops_in}
use Rattle.ws_space.specs.declared.state.ArrayValue.{ArrayValue}
use Rattle.ws_space.specs.declared.state.Var.{Var}
use Rattle.hlfir_meaning.specs.Environments.{Selection, Deferred, body_of, Value, part, Environment}
use Rattle.hlfir_meaning.specs.Stage1.{applied, deferred_in}
use Rattle.hlfir_meaning.specs.Stage2.{deferred_by, with_deferred, together}
use Rattle.act_lower.specs.Leads.{with_number, joined, leads_of, own_leads, given_leads, leads_before, leads, work_in, work_of, work_given, led, IsMadeBy, IsMadeFrom, IsMade}

module _ (gs : List Op) (env : Environment) where
  abbrev d : ℕ → Deferred
  d = led gs env

  chosen : (b c : Bool) (k e : ℕ) (es : List ℕ) (rest : List Deferred) → rest ≡ map d (with_number k es)
      → (if b then d k ∷ map d (e ∷ es) else (if c then map d (e ∷ es) else d e ∷ rest)) ≡ map d (if b then k ∷ e ∷ es else (if c then e ∷ es else e ∷ with_number k es))
  chosen true c k e es rest h = refl
  chosen false true k e es rest h = refl
  chosen false false k e es rest h = ap (λ l. d e ∷ l) h

  with_one : (k : ℕ) (es : List ℕ) → with_deferred (d k) (map d es) ≡ map d (with_number k es)
  with_one k [] = refl
  with_one k (e ∷ es) = chosen (nat_lt k e) (k == e) k e es (with_deferred (d k) (map d es)) (with_one k es)

  with_all : (ks es : List ℕ) → together (map d ks) (map d es) ≡ map d (joined ks es)
  with_all ks [] = refl
  with_all ks (e ∷ es) = ap (λ l. together l (map d es)) (with_one e ks) ∙ with_all (with_number e ks) es

  map_last : (ks : List ℕ) (n : ℕ) → map d ks ++ d n ∷ [] ≡ map d (ks ++ n ∷ [])
  map_last [] n = refl
  map_last (k ∷ ks) n = ap (λ l. d k ∷ l) (map_last ks n)

  -- what is known of the values before a number
  abbrev Known : ℕ → (ℕ → List ℕ) → Type 0
  Known n f = (k : ℕ) → k < n → deferred_by k (env k) ≡ map d (f k)

  led_all : (n : ℕ) (f : ℕ → List ℕ) → Known n f → (vs : List ValueId) → All (λ v. v.number < n) vs → deferred_in env vs ≡ map d (leads_of f vs)
  led_all n f known [] all = refl
  led_all n f known (v ∷ vs) all =
      (λ i. together (known v.number (All-head (λ w. w.number < n) v vs all) i) (led_all n f known vs (All-tail (λ w. w.number < n) v vs all) i))
      ∙ with_all (f v.number) (leads_of f vs)

  module _ (n : ℕ) (f : ℕ → List ℕ) (known : Known n f) where
    -- an elemental, with its own work
    of_elemental : (rs : List Region) → record { number = n; work = body_of (ops_in rs 0) } ≡ d n → IsMadeBy what.Elemental rs env n → deferred_by n (env n) ≡ map d (own_leads what.Elemental rs n f)
    of_elemental rs own h =
        ap (deferred_by n) h.0
        ∙ ((λ i. led_all n f known (applied (ops_in rs 0)) h.1 i ++ own i ∷ []) ∙ map_last (leads_of f (applied (ops_in rs 0))) n)

    designated : (x : Value) {v : Var} {a : ArrayValue} {s : Selection} → x ≡ part v a s → deferred_by n x ≡ record { number = n; work = work_in x } ∷ []
    designated x e = ap (deferred_by n) e ∙ ap (λ y. let z : Deferred = record { number = n; work = work_in y } in z ∷ []) (sym e)

    by_what : (w : What) (rs : List Region) → record { number = n; work = work_of w rs (env n) } ≡ d n → IsMadeBy w rs env n → deferred_by n (env n) ≡ map d (own_leads w rs n f)
    by_what what.Elemental rs own h = of_elemental rs own h
    by_what (what.Designate subs) rs own h = designated (env n) h.3 ∙ ap (λ x. x ∷ []) own
    by_what w rs own h = h

    by_op : (o : Option Op) → slice_get gs n ≡ o → IsMadeFrom o env n → deferred_by n (env n) ≡ map d (given_leads o n f)
    by_op (Some op) e h = by_what (out-Op op).what (out-Op op).regions (ap (λ o. let x : Deferred = record { number = n; work = work_given o (env n) } in x) (sym e)) h
    by_op None e h = h

  -- of all values before a number
  if_last : (n k : ℕ) (b : Bool) → (k == n) ≡ b → k < suc n → (f : ℕ → List ℕ) → Known n f → deferred_by n (env n) ≡ map d (given_leads (slice_get gs n) n f)
      → deferred_by k (env k) ≡ map d (if b then given_leads (slice_get gs n) n f else f k)
  if_last n k true e l f known own = let same : k ≡ n = grind (arith, e) in subst (λ j. deferred_by j (env j) ≡ map d (given_leads (slice_get gs n) n f)) (sym same) own
  if_last n k false e l f known own = known k (let other : k < n = grind (arith, e, l) in other)

  pub all_led : IsMade gs env → (n : ℕ) → Known n (leads_before gs n)
  all_led made zero k l = absurd (omega (arith, l))
  all_led made (suc n) k l = if_last n k (k == n) refl l (leads_before gs n) (all_led made n) (by_op n (leads_before gs n) (all_led made n) (slice_get gs n) refl (made n))

pub leads_hold : (gs : List Op) (env : Environment) → IsMade gs env → (n : ℕ) → deferred_by n (env n) ≡ map (led gs env) (leads gs n)
leads_hold gs env made n = all_led gs env made (suc n) n (omega arith)
