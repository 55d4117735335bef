-- What opens so that the faults of a tree that is written out compute.
use Rattle.ws_tree.specs.Calls.{takes}
use Rattle.ws_tree.specs.Opened.{trees_open}
use Rattle.ws_tree.specs.Words.{is_keyword, is_other_call, is_other_statement}
use Rattle.ws_types.specs.Kinds.{when, least_from}
use Rattle.ws_types.specs.Names.{name_faults, target_faults}
use Rattle.ws_types.specs.Operations.{unary_faults, unary_type, binary_faults, binary_type, scalar_faults, subscript_faults, part_faults, part_type, vector_faults, vector_type, call_faults, call_type, inquiry_faults, inquiry_type}
use Rattle.ws_types.specs.Expressions.{number_faults, wide_faults}
use Rattle.ws_types.specs.Constants.{constant_faults}
use Rattle.ws_counts.specs.Pieces.{call_pieces, subscript_pieces, is_whole}
use Rattle.ws_counts.specs.Limits.{parts_faults, steps_faults}
use Rattle.ws_sema.specs.Declarations.{heading_faults, bound_faults, shape_faults}
use Rattle.ws_sema.specs.Statements.{control_faults, sides_faults, mask_faults, variable_faults, loop_faults, scalar_mask_faults, allocatable_faults, serial_faults}

unfoldable pub everything : Unit {0}
unfolding trees_open is_keyword is_other_call is_other_statement when least_from name_faults target_faults
    unary_faults unary_type binary_faults binary_type scalar_faults subscript_faults part_faults part_type vector_faults vector_type takes call_faults call_type inquiry_faults inquiry_type
    number_faults wide_faults constant_faults heading_faults bound_faults shape_faults
    control_faults sides_faults mask_faults variable_faults loop_faults scalar_mask_faults allocatable_faults serial_faults
    call_pieces subscript_pieces is_whole parts_faults steps_faults
everything = tt
