-- Constant expressions over combinations: one value everywhere.
use Rattle.std.proofs.Common.{◌≡◌, refl, ap, ◌∙◌, List, [], ◌∷◌, map, Ok, ℤ}
use Rattle.ws_base.specs.declared.name.Name.{Name}
use Rattle.ws_base.specs.Numbers.{Exact, default_half, unary_value}
use Rattle.ws_base.specs.Outcomes.{Staged, ◌>>=◌, joined, each, rows}
use Rattle.ws_space.specs.Maps.{everywhere_same, pair_value, unary_map, binary_map}
use Rattle.ws_tree.specs.declared.expr.Expr.{Expr}
use Rattle.ws_tree.specs.declared.expr.Expr.TheVariants.{Named}
use Rattle.ws_types.specs.declared.constant.Constant as types
use Rattle.ws_types.specs.declared.constant.Constancy.{Constancy}
use Rattle.ws_types.specs.declared.constant.Constancy.TheVariants.{Value, NoValue, NotConstant}
use Rattle.ws_types.specs.Constants as known
use Rattle.ws_types.specs.Constants.{constancy}
use Rattle.array_meaning.specs.declared.world.World.{World}
use Rattle.array_meaning.specs.Forall.{Combination, name_value, over}
use Rattle.value_laws.specs.Names.{IfValue}
use Rattle.value_laws.proofs.Constancy.{constant-holds}

-- ---- the same value in each row

each_same : {A X : Type 0} (f : A → Exact) (a : A) (v : ℤ) (cs : List X) → f a ≡ Ok v → each f (map (λ _. a) cs) ≡ Ok (everywhere_same v cs)
each_same f a v [] h = refl
each_same f a v (c ∷ cs) h = ap (λ r. joined r (each f (map (λ _. a) cs))) h ∙ ap (joined (Ok v)) (each_same f a v cs h)

rows_same : {X : Type 0} (y z : ℤ) (cs : List X) → rows cs (everywhere_same y cs ∷ everywhere_same z cs ∷ []) ≡ map (λ _. y ∷ z ∷ []) cs
rows_same y z [] = refl
rows_same y z (c ∷ cs) = ap (λ rs. (y ∷ z ∷ []) ∷ rs) (rows_same y z cs)

module _ (names : List types.Constant) (w : World) (cs : List Combination) where
  abbrev pub IsSame : Expr → ℤ → Type 0
  IsSame e z = over w e cs ≡ Ok (everywhere_same z cs)

  -- so is the value of each name
  abbrev pub NamesAreSame : Type 0
  NamesAreSame = (x : Name) (z : ℤ) → known.constant_of names x ≡ Value z → map (name_value w x) cs ≡ everywhere_same z cs

  name_same : NamesAreSame → (x : Name) (c : Constancy) → known.constant_of names x ≡ c → IfValue c (IsSame (Named x))
  name_same h x (Value z) is = ap (λ xs. let r : Staged (List ℤ) = Ok xs in r) (h x z is)
  name_same h x NoValue is = tt
  name_same h x NotConstant is = tt

  pub constant-same : NamesAreSame → (e : Expr) → IfValue (constancy names e) (IsSame e)
  constant-same h = constant-holds names IsSame (record {
    number = λ n. refl;
    name = λ x. name_same h x (known.constant_of names x) refl;
    parentheses = λ e z is. is;
    sign = λ op e z v is give. ap (λ r. r >>= unary_map op) is ∙ each_same (unary_value default_half op) z v cs give;
    operation = λ op e f y z v is also give.
        ap (λ r. r >>= (λ xs. over w f cs >>= (λ ys. binary_map op cs xs ys))) is
        ∙ (ap (λ r. r >>= (λ ys. binary_map op cs (everywhere_same y cs) ys)) also
        ∙ (ap (each (pair_value op)) (rows_same y z cs) ∙ each_same (pair_value op) (y ∷ z ∷ []) v cs give));
  })
