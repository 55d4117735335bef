-- Kinds as text.
use Rattle.std.specs.Prelude.{ℕ, zero, suc, List, [], ◌++◌, Option, Some, None, codes, decimal}
use Rattle.std.specs.List.{flat_map}
use Rattle.std.specs.Fmt.{signed_decimal}
use Rattle.ws_space.specs.Shapes.{dims, upper}
use Rattle.ws_space.specs.declared.shape.Dim.{Dim}
use Rattle.hlfir_ops.specs.declared.kinds.Elem.{Elem}
use Rattle.hlfir_ops.specs.declared.kinds.Elem.TheVariants.{I32, I1}
use Rattle.hlfir_ops.specs.declared.kinds.ValueKind.{ValueKind}
use Rattle.hlfir_ops.specs.declared.kinds.ValueKind.TheVariants as kind

abbrev pub elem_text : Elem → List ℕ
elem_text I32 = codes "i32"
elem_text I1 = codes "i1"

-- the bounds of a dimension of a declared array
abbrev pub dim_text : Dim → List ℕ
dim_text d = signed_decimal d.lower ++ codes ":" ++ signed_decimal (upper d) ++ codes "x"

-- so many dimensions of an allocatable
abbrev pub open_dims : ℕ → List ℕ
open_dims zero = []
open_dims (suc n) = open_dims n ++ codes "?x"

abbrev pub kind_text : ValueKind → List ℕ
kind_text (kind.Scalar e) = elem_text e
kind_text (kind.Place e) = codes "ref<" ++ elem_text e ++ codes ">"
kind_text (kind.Declared e shape) = codes "ref<" ++ flat_map dim_text (dims shape) ++ elem_text e ++ codes ">"
kind_text (kind.Allocatable e rank) = codes "ref<" ++ open_dims rank ++ elem_text e ++ codes ">"
kind_text (kind.Section e rank) = codes "sec<" ++ decimal rank ++ codes "x" ++ elem_text e ++ codes ">"
kind_text (kind.Array e rank) = codes "expr<" ++ decimal rank ++ codes "x" ++ elem_text e ++ codes ">"

-- after the operands
abbrev pub kind_part : Option ValueKind → List ℕ
kind_part None = []
kind_part (Some k) = codes " : " ++ kind_text k
