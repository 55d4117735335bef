-- An evaluated header has one triplet for each index.
use Rattle.std.proofs.Common.{◌≡◌, refl, ap, ℕ, suc, List, [], ◌∷◌, length, Ok, Err, nat_lt, if◌then◌else◌, Bool, true, false}
use Rattle.ws_base.specs.declared.fault.FaultName.TheVariants.{TooLarge}
use Rattle.ws_base.specs.Outcomes.{Staged, trouble, ◌>>=◌}
use Rattle.ws_space.specs.Shapes.{size}
use Rattle.ws_space.specs.declared.shape.TheConstants.{ELEMENT_LIMIT}
use Rattle.ws_space.specs.declared.shape.Triplet.{Triplet}
use Rattle.ws_space.specs.Sections.{limited}
use Rattle.ws_space.specs.Combinations.{lengths}
use Rattle.ws_tree.specs.declared.stmt.Index.{Index}
use Rattle.array_meaning.specs.declared.world.World.{World}
use Rattle.array_meaning.specs.Forall.{stepping, axes, header}

abbrev pub AreMany : ℕ → Staged (List Triplet) → Type 0
AreMany many (Ok ts) = length ts ≡ many
AreMany many (Err t) = Unit {0}

one_more : (many : ℕ) (r : Staged Triplet) (q : Staged (List Triplet)) → AreMany many q → AreMany (suc many) (r >>= (λ t. q >>= (λ ts. Ok (t ∷ ts))))
one_more many (Ok t) (Ok ts) h = ap suc h
one_more many (Ok t) (Err e) h = tt
one_more many (Err e) q h = tt

axes-many : (w : World) (is : List Index) → AreMany (length is) (axes w is)
axes-many w [] = refl
axes-many w (i ∷ is) = one_more (length is) (stepping w i.l i.u i.s) (axes w is) (axes-many w is)

limited_many : (many : ℕ) (b : Bool) (ts : List Triplet) (e : Staged (List Triplet)) → AreMany many e → length ts ≡ many → AreMany many (if b then e else Ok ts)
limited_many many true ts e g h = g
limited_many many false ts e g h = h

within_limit : (many : ℕ) (ts : List Triplet) → length ts ≡ many → AreMany many (limited (lengths ts) ts)
within_limit many ts h = limited_many many (nat_lt ELEMENT_LIMIT (size (lengths ts))) ts (trouble TooLarge) tt h

all_within : (many : ℕ) (r : Staged (List Triplet)) → AreMany many r → AreMany many (r >>= (λ ts. limited (lengths ts) ts))
all_within many (Ok ts) h = within_limit many ts h
all_within many (Err t) h = tt

pub header-many : (w : World) (is : List Index) → AreMany (length is) (header w is)
header-many w is = all_within (length is) (axes w is) (axes-many w is)
