-- What a module holds that was built from a source: names of the source form, and numbers that fit their fields.
use Rattle.std.specs.Prelude.{◌≡◌, ℕ, ◌==◌, nat_lt, nat_le, Bool, true, false, ◌&&◌, ◌||◌, [], ◌∷◌, Option, Some}
use Rattle.std.specs.List.{list_all}
use Rattle.ws_base.specs.Numbers.{in_range, default_half}
use Rattle.ws_base.specs.declared.name.Name.{Name}
use Rattle.ws_space.specs.declared.shape.Dim.{Dim}
use Rattle.ws_space.specs.Shapes.{dims}
use Rattle.hlfir_ops.specs.declared.kinds.ValueKind.{ValueKind}
use Rattle.hlfir_ops.specs.declared.kinds.ValueKind.TheVariants as kind
use Rattle.hlfir_ops.specs.declared.what.What.{What}
use Rattle.hlfir_ops.specs.declared.what.What.TheVariants as what
use Rattle.hlfir_ops.specs.declared.op.Op.{Op, out-Op}
use Rattle.hlfir_ops.specs.declared.op.Module.{Module}
use Rattle.hlfir_ops.specs.Numbers.{order_of}

-- ---- names

abbrev pub is_letter : ℕ → Bool
is_letter b = nat_le 97 b && nat_le b 122

abbrev pub is_digit : ℕ → Bool
is_digit b = nat_le 48 b && nat_le b 57

abbrev pub is_word_byte : ℕ → Bool
is_word_byte b = is_letter b || is_digit b || b == 95

-- a letter, and then letters, digits and `_`
abbrev pub is_name : Name → Bool
is_name [] = false
is_name (b ∷ bs) = is_letter b && list_all is_word_byte bs

-- the names that an op brings
abbrev pub has_names : What → Bool
has_names (what.Declare name) = is_name name
has_names (what.Forall names) = list_all is_name names
has_names _ = true

-- ---- numbers

abbrev pub fits_32 : ℕ → Bool
fits_32 n = nat_lt n 4294967296

abbrev pub fits_64 : ℕ → Bool
fits_64 n = nat_lt n 18446744073709551616

abbrev pub fits_dim : Dim → Bool
fits_dim d = in_range default_half d.lower && fits_64 d.extent

abbrev pub fits_kind : Option ValueKind → Bool
fits_kind (Some (kind.Declared e shape)) = list_all fits_dim (dims shape)
fits_kind (Some (kind.Section e rank)) = fits_32 rank
fits_kind (Some (kind.Array e rank)) = fits_32 rank
fits_kind _ = true

abbrev pub fits_dimension : What → Bool
fits_dimension (what.Bound word dim) = fits_32 dim
fits_dimension _ = true

abbrev pub fits : Op → Bool
fits op = fits_32 (out-Op op).line && list_all (λ v. fits_32 v.number) (out-Op op).operands && fits_dimension (out-Op op).what && fits_kind (out-Op op).kind

-- ---- a module

pub record IsWritable (m : Module) : Type 0 where
  pub name : is_name m.name ≡ true
  pub names : list_all (λ op. has_names (out-Op op).what) (order_of m.ops) ≡ true
  pub numbers : list_all fits (order_of m.ops) ≡ true
