-- An exchange after which each rank has something in a loose column, and all else as it was.
use Rattle.std.proofs.Common.{◌≡◌, refl, sym, arith, ℕ, ◌<◌, ℤ, List, [], map, get_or, get_or-set_same, get_or-set_other, length-set}
use Rattle.std.specs.Prelude.{slice_index_or}
use Rattle.std.specs.List.{All, AllZip}
use Rattle.hp_spmd.specs.declared.code.Code.{Code}
use Rattle.hp_spmd.specs.declared.instr.Packing.{Packing}
use Rattle.hp_spmd.specs.declared.store.Store.{Store}
use Rattle.hp_spmd.specs.Layout.{Env, Layout}
use Rattle.hp_spmd.specs.Local.{pack_done}
use Rattle.hp_spmd.specs.Store.{Data, data_of}
use Rattle.hp_spmd.specs.Unpacks.{with_loose}
use Rattle.hp_snippet.specs.Promises.{IsRankOf, Stays}
use Rattle.hp_snippet.proofs.Keeping.{word_stays, words_layout, zip_map}
use Rattle.hp_snippet.proofs.Performing.{behind, behind_ranks}
use Rattle.hp_exchange.specs.Halos.{loose_alone}

module _ (code : Code) (ranks : List Store) (env : Env) (what : Packing) (to : ℕ) (cells : Store → List ℤ) where
  -- the data of a rank with the cells in the column
  abbrev pub data_loose : Store → Data
  data_loose x = with_loose to (cells x) (data_of x)

  abbrev pub ranks_loose : List Store
  ranks_loose = map (behind code.arrays what ranks data_loose) ranks

  pub loose_stays : (x : Store) → Stays (loose_alone to) x (behind code.arrays what ranks data_loose x)
  unfolding pack_done
  loose_stays x =
      record {
        number = refl;
        ranks_are = refl;
        words = λ w none. refl;
        arrays = λ k none. refl;
        loose = λ k none. get_or-set_other x.loose to k (cells x) [] (λ e. none.0 (sym e));
        executed = refl;
        log = refl;
      }

  pub loose_stay : AllZip (Stays (loose_alone to)) ranks ranks_loose
  loose_stay = zip_map (Stays (loose_alone to)) (behind code.arrays what ranks data_loose) ranks (λ i d lt. loose_stays (get_or ranks i d))

  pub loose_each : (n : ℕ) → All (IsRankOf code n) ranks → All (IsRankOf code n) ranks_loose
  loose_each n h = behind_ranks code n what ranks data_loose h (λ x. refl) (λ x. refl) (λ x. length-set x.loose to (cells x))

  pub loose_lays : Layout code ranks env → Layout code ranks_loose env
  loose_lays l =
      words_layout code (loose_alone to) ranks ranks_loose env env refl loose_stay l refl
      (λ w value e. word_stays code (loose_alone to) ranks ranks_loose env loose_stay l w value tt e)

  -- the column of a rank that has it
  pub loose_has : (n : ℕ) (x : Store) → to < code.loose → IsRankOf code n x → slice_index_or (behind code.arrays what ranks data_loose x).loose to [] ≡ cells x
  unfolding pack_done
  loose_has n x lt h = let there = h.loose in get_or-set_same x.loose to (cells x) [] (omega (arith, lt, there))
