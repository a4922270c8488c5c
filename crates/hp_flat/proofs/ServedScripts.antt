-- Tables that have the columns of a script's files serve its program.
use Rattle.std.proofs.Common.{ℕ, List, [], ◌++◌, sym, subst, append-nil}
use Rattle.std.specs.List.{AllByRecursion}
use Rattle.hp_script.specs.declared.typed.ReadSpec.{ReadSpec}
use Rattle.hp_script.specs.Checked.{files_of}
use Rattle.hp_script.specs.Mirror.{block_of}
use Rattle.hp_script.proofs.TypingLaws.{sound}
use Rattle.hp_meaning.specs.Fitting.{Serves}
use Rattle.hp_meaning.specs.ReadCalls.{reads_of, table_for}
use Rattle.hp_meaning.proofs.Parts.{Supplies}
use Rattle.hp_meaning.proofs.ReadOrder.{supplied, reads_rise}
use Rattle.hp_flat.specs.Flat.{flat_script}
use Rattle.hp_flat.specs.FlatLaws.{AreServed}
use Rattle.hp_flat.specs.Homes.{homes_of, homes_in}
use Rattle.hp_flat.proofs.ServedCode.{IsServed, block_fine}
use Rattle.hp_flat.proofs.ServedReads.{serving_block}
use Rattle.hp_flat.proofs.ToldScripts.{told_script}

pub are_served : AreServed
unfolding flat_script homes_of homes_in
are_served typed tables checked serve =
    let body = block_of typed.script.body in
    let fit = sound typed checked in
    let supplies : Supplies (λ id. table_for (reads_of body) id tables) (reads_of body) (files_of body) =
    supplied 0 (reads_of body) tables (files_of body) (reads_rise body typed.script.nodes typed.script.numbered) (subst (λ (l : List ReadSpec). Serves tables l) checked.reads serve) in
    let ended = subst (λ (ids : List ℕ). Supplies (λ id. table_for (reads_of body) id tables) ids (files_of body ++ [])) (sym (append-nil (reads_of body)))
    (subst (λ (l : List ReadSpec). Supplies (λ id. table_for (reads_of body) id tables) (reads_of body) l) (sym (append-nil (files_of body))) supplies) in
    let all : AllByRecursion (IsServed (homes_of typed) tables) (reads_of body) =
    ((serving_block (homes_of typed) tables fit.fits (told_script typed checked fit.behind fit.fits)).take [] [] ended).0 in
    block_fine (homes_of typed) tables body all
