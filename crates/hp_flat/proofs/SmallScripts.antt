-- How much the operations of a script that fits are: fewer than 2^24, counted with branches, loops and the arrays that can
-- need a move.
use Rattle.std.proofs.Common.{◌≡◌, ℕ, ◌*◌, ◌≤◌, ◌<◌, ◌^◌, List, ◌++◌, length, ap, ◌∙◌, arith}
use Rattle.std.proofs.lemmas.List.{length-append}
use Rattle.std.proofs.lemmas.List.FromFn.{length-range_with_len}
use Rattle.hp_script.specs.declared.typed.Typed.{Typed}
use Rattle.hp_script.specs.Checked.{Checked, start_of}
use Rattle.hp_script.specs.Fitting.{FitsBlock, fits_done, fits_first, fits_again, fits_print, fits_export, fits_if, fits_while}
use Rattle.hp_script.specs.Mirror.{Block, block_of}
use Rattle.hp_script.specs.Nodes.{nodes_in, nodes_of}
use Rattle.hp_script.specs.Scope.{Scope}
use Rattle.hp_script.proofs.TypingLaws.{sound}
use Rattle.hp_program.specs.Programs.{Prog, choose as branch, joined}
use Rattle.hp_air.specs.declared.what.Op.{Op}
use Rattle.hp_air.specs.Kept.{moves_in, size_of}
use Rattle.hp_air.specs.Unknowns.{no_frame}
use Rattle.hp_flat.specs.Flat.{flat_at, flat_block, flat_script, store_code, print_code, export_code}
use Rattle.hp_flat.specs.Homes.{Homes, homes_in, homes_of, word_of}
use Rattle.hp_flat.specs.KeptLaws.{AreSmall}
use Rattle.hp_flat.proofs.Heft.{heft_counts}
use Rattle.hp_flat.proofs.SmallCode.{size, size_joined, store_small, print_small, export_small}
use Rattle.hp_flat.proofs.SmallTrees.{Small, small}
use Rattle.hp_flat.proofs.ToldScripts.{told_script}
use Rattle.hp_flat.proofs.ToldTypes.{ToldBlock}

-- an expression, an operation with its value, and the statements behind
statement : (p c q : Prog Op) (ns ms : List ℕ) → Small p ns → size c ≤ 1 → size q ≤ 5 * length ms → size (joined p (joined c q)) ≤ 5 * length (ns ++ ms)
statement p c q ns ms one last more = omega (arith, size_joined p (joined c q), size_joined c q, length-append ns ms, one, last, more)

pub block_small : (h : Homes) {s : Scope} {b : Block} {t : Scope} (f : FitsBlock s b t) → ToldBlock h.known f → size (flat_block h b) ≤ 5 * length (nodes_of b)
unfolding flat_block nodes_of
block_small h fits_done t = omega arith
block_small h (fits_first {at = at} {x = x} {e = e} {rest = rest} p new next) t =
    statement (flat_at h e) (store_code h at x e) (flat_block h rest) (nodes_in e) (nodes_of rest) (small h p t.0.1 no_frame) (store_small h at x e) (block_small h next t.1)
block_small h (fits_again {at = at} {x = x} {e = e} {rest = rest} p new next) t =
    statement (flat_at h e) (store_code h at x e) (flat_block h rest) (nodes_in e) (nodes_of rest) (small h p t.0.1 no_frame) (store_small h at x e) (block_small h next t.1)
block_small h (fits_print {at = at} {e = e} {rest = rest} p can next) t =
    statement (flat_at h e) (print_code h at e) (flat_block h rest) (nodes_in e) (nodes_of rest) (small h p t.0.1 no_frame) (print_small h at e) (block_small h next t.1)
block_small h (fits_export {at = at} {d = e} {rest = rest} p next) t =
    statement (flat_at h e) (export_code h at e) (flat_block h rest) (nodes_in e) (nodes_of rest) (small h p t.0.1 no_frame) (export_small h at e) (block_small h next t.1)
block_small h (fits_if {c = e} {body = body} {other = other} {rest = rest} p taken passed next) t =
    omega (
      arith,
      size_joined (flat_at h e) (branch (word_of h e) (flat_block h body) (flat_block h other) (flat_block h rest)),
      length-append ((nodes_in e ++ nodes_of body) ++ nodes_of other) (nodes_of rest),
      length-append (nodes_in e ++ nodes_of body) (nodes_of other),
      length-append (nodes_in e) (nodes_of body),
      small h p t.0.1 no_frame,
      block_small h taken t.1,
      block_small h passed t.2,
      block_small h next t.3,
    )
block_small h (fits_while {c = e} {body = body} {rest = rest} p taken next) t =
    omega (arith, length-append (nodes_in e ++ nodes_of body) (nodes_of rest), length-append (nodes_in e) (nodes_of body), small h p t.0.1 no_frame, block_small h taken t.1, block_small h next t.2)

-- a script has at most 65,536 expressions
pub few_nodes : (typed : Typed) → length (nodes_of (block_of typed.script.body)) ≤ 65536
few_nodes typed =
    let nodes : length (nodes_of (block_of typed.script.body)) ≡ typed.script.nodes = ap length typed.script.numbered ∙ length-range_with_len 0 typed.script.nodes in
    let few = typed.script.few in
    omega (arith, nodes, few)

below : (size nodes most : ℕ) → size ≤ 5 * nodes → nodes ≤ 65536 → 327680 < most → size < most
below size nodes most p q r = omega (arith, p, q, r)

script_small : (typed : Typed) → Checked typed → (behind : Scope) → FitsBlock (start_of (block_of typed.script.body)) (block_of typed.script.body) behind → size_of (flat_script typed) < 2 ^ 24
unfolding flat_script size_of homes_of homes_in
script_small typed checked behind fits =
    let h : Homes = homes_of typed in
    let p : Prog Op = flat_block h (block_of typed.script.body) in
    let counted = heft_counts moves_in p in
    let small : size p ≤ 5 * length (nodes_of (block_of typed.script.body)) = block_small h fits (told_script typed checked behind fits) in
    below _ (length (nodes_of (block_of typed.script.body))) (2 ^ 24) (omega (arith, counted, small)) (few_nodes typed) (omega arith)

pub are_small : AreSmall
are_small typed checked =
    let fit = sound typed checked in
    script_small typed checked fit.behind fit.fits
