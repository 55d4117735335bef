-- Examples: modules that no source is lowered to. Each stands with its text; its module, the lines of its data and those of its report follow.
use Rattle.std.specs.Prelude.{[], ◌∷◌, codes}
use Rattle.hlfir_ops.specs.declared.kinds.Elem.TheVariants.{I32}
use Rattle.hlfir_ops.specs.declared.what.SubKind.TheVariants as sub
use Rattle.hlfir_ops.specs.declared.what.ValueBinary.TheVariants as bin
use Rattle.hlfir_meaning.specs.Example.{Example, example, binary, section, apply, elemental, yields_element, assign, arrays, constants, yield, fill}

--     module main
--     %0 = hlfir.declare "a" : ref<1:3xi32>
--     %1 = hlfir.declare "b" : ref<1:3xi32>
--     %2 = hlfir.declare "c" : ref<1:3xi32>
--     %3 = hlfir.declare "d" : ref<1:3xi32>
--     hlfir.region_assign @2 {
--       %4 = arith.constant 2147483647 : i32
--       %5 = arith.constant 1 : i32
--       %6 = arith.constant 1 : i32
--       %7 = hlfir.vector %4 %5 %6 : expr<1xi32>
--       hlfir.yield %7
--     } to {
--       hlfir.yield %1
--     }
--     hlfir.region_assign @3 {
--       %8 = arith.constant 1 : i32
--       %9 = arith.constant 1 : i32
--       %10 = arith.constant 0 : i32
--       %11 = hlfir.vector %8 %9 %10 : expr<1xi32>
--       hlfir.yield %11
--     } to {
--       hlfir.yield %2
--     }
--     hlfir.region_assign @4 {
--       %12 = arith.constant 1 : i32
--       %13 = arith.constant 1 : i32
--       %14 = arith.constant 1 : i32
--       %15 = hlfir.vector %12 %13 %14 : expr<1xi32>
--       hlfir.yield %15
--     } to {
--       hlfir.yield %3
--     }
--     hlfir.region_assign @5 {
--       %16 = hlfir.elemental : expr<1xi32> {
--         %17 = hlfir.apply %1 : i32
--         %18 = hlfir.apply %2 : i32
--         %19 = arith.divsi %17, %18 : i32
--         %20 = hlfir.apply %3 : i32
--         %21 = arith.addi %19, %20 : i32
--         hlfir.yield_element %21
--       }
--       hlfir.yield %16
--     } to {
--       hlfir.yield %0
--     }
unfoldable pub operations_of_one_body : Example
operations_of_one_body = example (arrays (codes "a" ∷ codes "b" ∷ codes "c" ∷ codes "d" ∷ []) 3)
    (fill 2 4 (constants (2147483647 ∷ 1 ∷ 1 ∷ [])) 1
    ∷ fill 3 8 (constants (1 ∷ 1 ∷ 0 ∷ [])) 2
    ∷ fill 4 12 (constants (1 ∷ 1 ∷ 1 ∷ [])) 3
    ∷ assign 5 (elemental I32 1 (apply I32 1 ∷ apply I32 2 ∷ binary bin.Div 17 18 ∷ apply I32 3 ∷ binary bin.Add 19 20 ∷ yields_element 21 ∷ []) ∷ yield 16)
    (yield 0) ∷ []) [] (codes "fault DivideByZero line 5 element 3" ∷ [])

--     module main
--     %0 = hlfir.declare "a" : ref<1:2xi32>
--     %1 = hlfir.declare "b" : ref<1:2xi32>
--     %2 = hlfir.declare "c" : ref<1:2xi32>
--     %3 = hlfir.declare "d" : ref<1:2xi32>
--     %4 = hlfir.declare "v" : ref<1:2xi32>
--     hlfir.region_assign @2 {
--       %5 = arith.constant 2 : i32
--       %6 = arith.constant 3 : i32
--       %7 = hlfir.vector %5 %6 : expr<1xi32>
--       hlfir.yield %7
--     } to {
--       hlfir.yield %1
--     }
--     hlfir.region_assign @3 {
--       %8 = arith.constant 1 : i32
--       %9 = arith.constant 0 : i32
--       %10 = hlfir.vector %8 %9 : expr<1xi32>
--       hlfir.yield %10
--     } to {
--       hlfir.yield %2
--     }
--     hlfir.region_assign @4 {
--       %11 = arith.constant 1 : i32
--       %12 = arith.constant 5 : i32
--       %13 = hlfir.vector %11 %12 : expr<1xi32>
--       hlfir.yield %13
--     } to {
--       hlfir.yield %4
--     }
--     hlfir.region_assign @5 {
--       %14 = hlfir.elemental : expr<1xi32> {
--         %15 = hlfir.apply %1 : i32
--         %16 = hlfir.apply %2 : i32
--         %17 = arith.divsi %15, %16 : i32
--         hlfir.yield_element %17
--       }
--       %18 = hlfir.designate %3 (vector %4) : sec<1xi32>
--       %19 = hlfir.elemental : expr<1xi32> {
--         %20 = hlfir.apply %18 : i32
--         %21 = hlfir.apply %14 : i32
--         %22 = arith.addi %20, %21 : i32
--         hlfir.yield_element %22
--       }
--       hlfir.yield %19
--     } to {
--       hlfir.yield %0
--     }
unfoldable pub elemental_before_a_section : Example
elemental_before_a_section = example (arrays (codes "a" ∷ codes "b" ∷ codes "c" ∷ codes "d" ∷ codes "v" ∷ []) 2)
    (fill 2 5 (constants (2 ∷ 3 ∷ [])) 1
    ∷ fill 3 8 (constants (1 ∷ 0 ∷ [])) 2
    ∷ fill 4 11 (constants (1 ∷ 5 ∷ [])) 4
    ∷ assign 5
    (elemental I32 1 (apply I32 1 ∷ apply I32 2 ∷ binary bin.Div 15 16 ∷ yields_element 17 ∷ []) ∷ section I32 1 3 (sub.Vector ∷ []) (4 ∷ [])
    ∷ elemental I32 1 (apply I32 18 ∷ apply I32 14 ∷ binary bin.Add 20 21 ∷ yields_element 22 ∷ []) ∷ yield 19)
    (yield 0) ∷ []) [] (codes "fault DivideByZero line 5 element 2" ∷ [])

--     module main
--     %0 = hlfir.declare "a" : ref<1:3xi32>
--     %1 = hlfir.declare "v" : ref<1:3xi32>
--     hlfir.region_assign @2 {
--       %2 = arith.constant 2 : i32
--       %3 = arith.constant 3 : i32
--       %4 = arith.constant 4 : i32
--       %5 = hlfir.vector %2 %3 %4 : expr<1xi32>
--       hlfir.yield %5
--     } to {
--       hlfir.yield %0
--     }
--     hlfir.region_assign @3 {
--       %6 = arith.constant 3 : i32
--       %7 = arith.constant 1 : i32
--       %8 = arith.constant 2 : i32
--       %9 = hlfir.vector %6 %7 %8 : expr<1xi32>
--       hlfir.yield %9
--     } to {
--       hlfir.yield %1
--     }
--     hlfir.region_assign @4 {
--       %10 = hlfir.designate %0 (vector %1) : sec<1xi32>
--       %11 = hlfir.elemental : expr<1xi32> {
--         %12 = hlfir.apply %10 : i32
--         %13 = hlfir.apply %10 : i32
--         %14 = arith.muli %12, %13 : i32
--         hlfir.yield_element %14
--       }
--       hlfir.yield %11
--     } to {
--       hlfir.yield %0
--     }
unfoldable pub section_applied_twice : Example
section_applied_twice = example (arrays (codes "a" ∷ codes "v" ∷ []) 3)
    (fill 2 2 (constants (2 ∷ 3 ∷ 4 ∷ [])) 0
    ∷ fill 3 6 (constants (3 ∷ 1 ∷ 2 ∷ [])) 1
    ∷ assign 4
    (section I32 1 0 (sub.Vector ∷ []) (1 ∷ []) ∷ elemental I32 1 (apply I32 10 ∷ apply I32 10 ∷ binary bin.Mul 12 13 ∷ yields_element 14 ∷ []) ∷ yield 11)
    (yield 0) ∷ []) [] (codes "a(1:3) = 16 4 9" ∷ codes "v(1:3) = 3 1 2" ∷ [])
