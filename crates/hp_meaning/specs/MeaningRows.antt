-- Worked rows: what short scripts mean.
use Rattle.std.specs.Prelude.{ℕ, pos, true, false, List, [], ◌≡◌, codes, Option, Some, None, refl}
use Rattle.std.specs.Option.{option_map}
use Rattle.std.specs.Fmt.{digits}
use Rattle.std.specs.Int.{int_wrap}
use Rattle.hp_word.specs.declared.place.Place.{Place}
use Rattle.hp_word.specs.declared.place.TrapKind.TheVariants.{Empty}
use Rattle.hp_word.specs.ListRules as lists
use Rattle.hp_word.specs.Text.{list_line, joined_by, csv, row_line}
use Rattle.hp_script.specs.declared.tree.BinOp.TheVariants.{Add, Eq, Lt, Gt, And}
use Rattle.hp_script.specs.Functions.{function_named, scalar_named, fold_named, array_named, frame_named}
use Rattle.hp_script.specs.Mirror.{Head, head, Tree, Block, number, truth, variable, column, field, binary, call, none, plain, range, named, done, assign, print, export, loop}
use Rattle.hp_meaning.specs.declared.seq.SeqStatus.{SeqStatus}
use Rattle.hp_meaning.specs.declared.seq.SeqStatus.TheVariants as status
use Rattle.hp_meaning.specs.Outcomes.{all_of}
use Rattle.hp_meaning.specs.ListRules.{filled, collected, folded}
use Rattle.hp_meaning.specs.FrameRules.{column_of, field_value, framed, filtered}
use Rattle.hp_word.specs.RowRules.{level, filter_rows}
use Rattle.hp_meaning.specs.ReadCalls.{reads_of, reads_in, reads_among}
use Rattle.hp_meaning.specs.Scopes.{value_named, assigned}
use Rattle.hp_meaning.specs.ValueOf.{value, parts, flipped, one, two, ends, columns_among, operated, strict_operands, lazy_operands, column_value, filter_call, called_as, operator_value, lazily}
use Rattle.hp_meaning.specs.WordRules.{plain_value, calculated_words, dotted_value, elementwise, spread, with_right, scalar_value}
use Rattle.hp_meaning.specs.Run.{End, eval, run}
use Rattle.hp_word.specs.Runs.{turns}

-- what a script writes, its status and its ticks, with no tables
abbrev out_of : Option End → List ℕ
out_of (Some e) = e.at.out
out_of None = []

abbrev status_of : Option End → Option SeqStatus
status_of end = option_map (λ e. e.status) end

abbrev ticks_of : Option End → ℕ
ticks_of (Some e) = e.at.seen.ticks
ticks_of None = 0

abbrev meaning_of : Block → ℕ → Option End
meaning_of body fuel = eval body [] [] fuel

-- short forms at one place
abbrev at : Place
at = record { line = 1; col = 1 }

abbrev h : Head
h = head 0 at

abbrev n : ℕ → Tree
n k = number h (pos k)

abbrev v : List ℕ → Tree
v name = variable h name

abbrev x : List ℕ
x = codes "x"

abbrev i : List ℕ
i = codes "i"

abbrev call_one : List ℕ → Tree → Tree
call_one f a = call h f false (plain a none)

abbrev call_two : List ℕ → Tree → Tree → Tree
call_two f a b = call h f false (plain a (plain b none))

-- `x = fill(3, 10)`, `println(sum(x))`: 30, in the ticks of two statements and five expressions
abbrev first : Block
first = assign at x (call_two (codes "fill") (n 3) (n 10)) (print at (call_one (codes "sum") (v x)) done)

first_out : out_of (meaning_of first 0) ≡ codes "30\n"
unfolding eval run reads_of reads_in reads_among value parts called_as one two filled lists.filled folded lists.folded_list value_named assigned function_named scalar_named fold_named array_named frame_named int_wrap digits
first_out = refl

first_ticks : ticks_of (meaning_of first 0) ≡ 7
unfolding eval run reads_of reads_in reads_among value parts called_as one two filled lists.filled folded lists.folded_list value_named assigned function_named scalar_named fold_named array_named frame_named int_wrap digits
first_ticks = refl

-- `println(minimum(collect(2:1)))`: the trap Empty at the call
least_status : status_of (meaning_of (print at (call_one (codes "minimum") (call h (codes "collect") false (range (n 2) (n 1) none))) done) 0) ≡ Some (status.Trap at Empty)
unfolding eval run reads_of reads_in reads_among value parts called_as one ends collected lists.range_of lists.range_count lists.span folded lists.folded_list function_named scalar_named fold_named array_named frame_named
least_status = refl

-- `println(false && div(1, 0) == 0)`: false
lazy_out : out_of (meaning_of (print at (binary h And false (truth h false) (binary h Eq false (call_two (codes "div") (n 1) (n 0)) (n 0))) done) 0) ≡ codes "false\n"
unfolding eval run reads_of reads_in reads_among value parts flipped operated strict_operands lazy_operands called_as two lazily operator_value plain_value scalar_value calculated_words function_named scalar_named fold_named array_named frame_named
lazy_out = refl

-- `i = 0`, `while i < 2`, `i = i + 1`, `end`, `println(i)`: 2 with two turns, and no end with one
abbrev counting : Block
counting = assign at i (n 0) (loop at (binary h Lt false (v i) (n 2)) (assign at i (binary h Add false (v i) (n 1)) done) (print at (v i) done))

loop_out : out_of (meaning_of counting 2) ≡ codes "2\n"
unfolding eval run turns reads_of reads_in value parts flipped operated strict_operands operator_value plain_value calculated_words value_named assigned int_wrap digits
loop_out = refl

loop_ticks : ticks_of (meaning_of counting 2) ≡ 24
unfolding eval run turns reads_of reads_in value parts flipped operated strict_operands operator_value plain_value calculated_words value_named assigned int_wrap digits
loop_ticks = refl

loop_spent : status_of (meaning_of counting 1) ≡ Some status.Fuel
unfolding eval run turns reads_of reads_in value parts flipped operated strict_operands operator_value plain_value calculated_words value_named assigned int_wrap digits
loop_spent = refl

-- `f = DataFrame(v = collect(1:4))`, `g = filter(f, :v .> 2)`, `println(g.v)`, `write_csv(g)`
abbrev filtering : Block
filtering =
    assign at (codes "f") (call h (codes "DataFrame") false (named (codes "v") at (call h (codes "collect") false (range (n 1) (n 4) none)) none))
    (assign at (codes "g") (call_two (codes "filter") (v (codes "f")) (binary h Gt true (column h (codes "v")) (n 2)))
    (print at (field h (codes "g") (codes "v")) (export at (v (codes "g")) done)))

filter_out : out_of (meaning_of filtering 0) ≡ codes "[3, 4]\nv\n3\n4\n"
unfolding eval run reads_of reads_in reads_among value parts flipped operated strict_operands lazy_operands called_as ends collected lists.range_of lists.range_count lists.span columns_among framed level filter_call filtered filter_rows operator_value dotted_value elementwise spread with_right all_of field_value column_value column_of value_named assigned function_named scalar_named fold_named array_named frame_named list_line joined_by csv row_line digits int_wrap
filter_out = refl

-- `x = 1 .+ 2` is wrong: it has no meaning
wrong_row : meaning_of (assign at x (binary h Add true (n 1) (n 2)) done) 0 ≡ None
unfolding eval run reads_of reads_in value parts flipped operated strict_operands operator_value dotted_value elementwise spread
wrong_row = refl
