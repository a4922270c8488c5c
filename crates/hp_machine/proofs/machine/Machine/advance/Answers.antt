-- What came of each answer of an action.
use Rattle.std.proofs.Common.{◌∙◌, refl, sym, subst, ap, ◌+◌, ◌<◌, get_or, set, map}
use Rattle.std.specs.Prelude.{max}
use Rattle.std.proofs.lemmas.List.{get_or_read}
use Rattle.hp_network.specs.Rows.{at_most}
use Rattle.hp_rank.specs.declared.rank.Rank.{Rank}
use Rattle.hp_spmd.specs.Act.{act}
use Rattle.hp_turns.specs.Turns.{machine}
use Rattle.hp_machine.specs.Machines.{trap_of}
use Rattle.hp_machine.specs.Parts.{HasRoom}
use Rattle.hp_machine.specs.Sound.{IsSound}
use Rattle.hp_machine.specs.States.{Comes}
use Rattle.hp_machine.proofs.AdvanceLemmas.{rank_read, ranks_same, state_same, waited_turn, waited_idles, trapped_turn, moved_idles, moved_turn, moved_sound, peak_read}
use Rattle.hp_machine.proofs.SoundLemmas.{sound_trapped}
use Rattle.hp_machine.proofs.machine.Machine.advance.Goals as goal

-- ---- a rank that waits

pub invariant_of-self-in-Waited : goal.invariant_of-self-in-Waited
invariant_of-self-in-Waited c =
    let s = c.args.self.now in
    let is = rank_read s.ranks.items c.args.rank c.index_mut.result.now c.requires.among c.index_mut.ensures.value in
    let did = subst (λ d. Comes (machine c.args.code.now c.args.tables.now (at_most s.room s.sound.least)) (act c.args.code.now c.args.tables.now c.index_mut.result.now.store) d c.args.rank c.index_mut.result.now.store c.act.new.rank.store s.queues c.act.new.queues s.out.items c.act.new.out.items) c.in-Waited.is (c.in_ok-act.ensures.did s.sound.least) in
    record {
      sound = subst (λ q. IsSound (set s.ranks.items c.args.rank c.act.new.rank) q s.moves.items s.words.items s.peak.items s.room) (sym did.0.mail_is)
          (subst (λ l. IsSound l s.queues s.moves.items s.words.items s.peak.items s.room) (sym (ranks_same s.ranks.items c.args.rank c.act.new.rank (did.0.store_is ∙ is))) s.sound);
    }

pub returns-in-Waited-clause-state : goal.returns-in-Waited-clause-state
returns-in-Waited-clause-state c = λ some.
    let s = c.args.self.now in
    let is = rank_read s.ranks.items c.args.rank c.index_mut.result.now c.requires.among c.index_mut.ensures.value in
    let did = subst (λ d. Comes (machine c.args.code.now c.args.tables.now (at_most s.room some)) (act c.args.code.now c.args.tables.now c.index_mut.result.now.store) d c.args.rank c.index_mut.result.now.store c.act.new.rank.store s.queues c.act.new.queues s.out.items c.act.new.out.items) c.in-Waited.is (c.in_ok-act.ensures.did some) in
    state_same s.ranks.items c.args.rank c.index_mut.result.now.store c.act.new.rank s.queues c.act.new.queues s.out.items c.act.new.out.items s.trap s.moves.items s.words.items s.peak.items is did.0
    ∙ sym (waited_turn c.args.code.now c.args.tables.now s.room some c.args.rank c.index_mut.result.now.store s.ranks.items s.queues s.out.items s.trap s.moves.items s.words.items s.peak.items c.requires.among is c.requires.going (did.1 s.ranks.items s.moves.items s.words.items s.peak.items))

pub returns-in-Waited-clause-deed : goal.returns-in-Waited-clause-deed
returns-in-Waited-clause-deed c = λ some.
    let s = c.args.self.now in
    let is = rank_read s.ranks.items c.args.rank c.index_mut.result.now c.requires.among c.index_mut.ensures.value in
    let did = subst (λ d. Comes (machine c.args.code.now c.args.tables.now (at_most s.room some)) (act c.args.code.now c.args.tables.now c.index_mut.result.now.store) d c.args.rank c.index_mut.result.now.store c.act.new.rank.store s.queues c.act.new.queues s.out.items c.act.new.out.items) c.in-Waited.is (c.in_ok-act.ensures.did some) in (
      state_same s.ranks.items c.args.rank c.index_mut.result.now.store c.act.new.rank s.queues c.act.new.queues s.out.items c.act.new.out.items s.trap s.moves.items s.words.items s.peak.items is did.0,
      waited_idles c.args.code.now c.args.tables.now s.room some c.args.rank c.index_mut.result.now.store s.ranks.items s.queues s.out.items s.trap s.moves.items s.words.items s.peak.items c.requires.among is c.requires.going (did.1 s.ranks.items s.moves.items s.words.items s.peak.items),
    )

-- ---- a rank that traps

pub invariant_of-self-in-Trapped : goal.invariant_of-self-in-Trapped
invariant_of-self-in-Trapped c =
    let s = c.args.self.now in
    let is = rank_read s.ranks.items c.args.rank c.index_mut.result.now c.requires.among c.index_mut.ensures.value in
    let did = subst (λ d. Comes (machine c.args.code.now c.args.tables.now (at_most s.room s.sound.least)) (act c.args.code.now c.args.tables.now c.index_mut.result.now.store) d c.args.rank c.index_mut.result.now.store c.act.new.rank.store s.queues c.act.new.queues s.out.items c.act.new.out.items) c.in-Trapped.is (c.in_ok-act.ensures.did s.sound.least) in
    let read = get_or_read s.moves.items c.args.rank c.index_mut-in-Trapped.result.now (subst (λ n. c.args.rank < n) (sym s.sound.moves_of_each) c.requires.among) c.index_mut-in-Trapped.ensures.value 0 in
    record {
      sound = subst (λ v. IsSound (set s.ranks.items c.args.rank c.act.new.rank) c.act.new.queues (set s.moves.items c.args.rank (v + 1)) s.words.items s.peak.items s.room) (sym read)
          (subst (λ q. IsSound (set s.ranks.items c.args.rank c.act.new.rank) q (set s.moves.items c.args.rank (get_or s.moves.items c.args.rank 0 + 1)) s.words.items s.peak.items s.room) (sym did.0.mail_is)
          (subst (λ l. IsSound l s.queues (set s.moves.items c.args.rank (get_or s.moves.items c.args.rank 0 + 1)) s.words.items s.peak.items s.room) (sym (ranks_same s.ranks.items c.args.rank c.act.new.rank (did.0.store_is ∙ is)))
          (sound_trapped s.ranks.items s.queues s.moves.items s.words.items s.peak.items s.room c.args.rank s.sound c.requires.among)));
    }

pub returns-in-Trapped-clause-state : goal.returns-in-Trapped-clause-state
returns-in-Trapped-clause-state c = λ some.
    let s = c.args.self.now in
    let is = rank_read s.ranks.items c.args.rank c.index_mut.result.now c.requires.among c.index_mut.ensures.value in
    let did = subst (λ d. Comes (machine c.args.code.now c.args.tables.now (at_most s.room some)) (act c.args.code.now c.args.tables.now c.index_mut.result.now.store) d c.args.rank c.index_mut.result.now.store c.act.new.rank.store s.queues c.act.new.queues s.out.items c.act.new.out.items) c.in-Trapped.is (c.in_ok-act.ensures.did some) in
    trapped_turn c.args.code.now c.args.tables.now s.room some c.args.rank c.index_mut-in-Trapped.result.now c.in-Trapped.place c.in-Trapped.kind c.index_mut.result.now.store c.act.new.rank s.ranks.items s.queues c.act.new.queues s.out.items c.act.new.out.items s.trap s.moves.items s.words.items s.peak.items
    s.sound c.requires.among is c.requires.going did.0 did.1 c.index_mut-in-Trapped.ensures.value

pub returns-in-Trapped-clause-deed : goal.returns-in-Trapped-clause-deed
returns-in-Trapped-clause-deed c = λ some.
    let s = c.args.self.now in
    let is = rank_read s.ranks.items c.args.rank c.index_mut.result.now c.requires.among c.index_mut.ensures.value in
    let did = subst (λ d. Comes (machine c.args.code.now c.args.tables.now (at_most s.room some)) (act c.args.code.now c.args.tables.now c.index_mut.result.now.store) d c.args.rank c.index_mut.result.now.store c.act.new.rank.store s.queues c.act.new.queues s.out.items c.act.new.out.items) c.in-Trapped.is (c.in_ok-act.ensures.did some) in
    (refl, ap (λ l. map (λ (rank : Rank). rank.store) l) (ranks_same s.ranks.items c.args.rank c.act.new.rank (did.0.store_is ∙ is)))

-- ---- a rank that moves

pub invariant_of-self-in-Moved : goal.invariant_of-self-in-Moved
invariant_of-self-in-Moved c =
    let s = c.args.self.now in
    let x = c.index_mut.result.now.store in
    let y = c.act.new.rank in
    let is = rank_read s.ranks.items c.args.rank c.index_mut.result.now c.requires.among c.index_mut.ensures.value in
    let did = subst (λ d. Comes (machine c.args.code.now c.args.tables.now (at_most s.room s.sound.least)) (act c.args.code.now c.args.tables.now x) d c.args.rank x y.store s.queues c.act.new.queues s.out.items c.act.new.out.items) c.in-Moved.is (c.in_ok-act.ensures.did s.sound.least) in
    let counted = peak_read c.args.code.now c.args.tables.now c.args.rank c.cells_after-cells.result c.next_keeps_arrays-keeps.result c.index.result.now c.index_mut.result.now y c.index-in-Moved.result.now s.ranks.items s.queues s.moves.items s.words.items s.peak.items s.room s.sound c.requires.among c.index.ensures c.index_mut.ensures.value c.index-in-Moved.ensures c.next_keeps_arrays-keeps.ensures did.comes c.cells_after-cells.ensures in
    record {
      sound = moved_sound c.args.code.now c.args.tables.now s.room c.args.rank c.in-Moved.posted (max (get_or s.peak.items c.args.rank 0) c.cells_after-cells.result) x y s.ranks.items s.queues c.act.new.queues s.moves.items s.words.items s.peak.items c.count.new.moves.items c.count.new.words.items c.count.new.peak.items
          s.sound c.requires.among is did.comes (subst (λ n. HasRoom n s.room c.act.new.queues) s.sound.room_for_each.ranks c.act.ensures.mail) counted c.count.ensures.moves c.count.ensures.words c.count.ensures.peak;
    }

pub returns-in-Moved-clause-state : goal.returns-in-Moved-clause-state
returns-in-Moved-clause-state c = λ some.
    let s = c.args.self.now in
    let x = c.index_mut.result.now.store in
    let y = c.act.new.rank in
    let is = rank_read s.ranks.items c.args.rank c.index_mut.result.now c.requires.among c.index_mut.ensures.value in
    let did = subst (λ d. Comes (machine c.args.code.now c.args.tables.now (at_most s.room some)) (act c.args.code.now c.args.tables.now x) d c.args.rank x y.store s.queues c.act.new.queues s.out.items c.act.new.out.items) c.in-Moved.is (c.in_ok-act.ensures.did some) in
    let counted = peak_read c.args.code.now c.args.tables.now c.args.rank c.cells_after-cells.result c.next_keeps_arrays-keeps.result c.index.result.now c.index_mut.result.now y c.index-in-Moved.result.now s.ranks.items s.queues s.moves.items s.words.items s.peak.items s.room s.sound c.requires.among c.index.ensures c.index_mut.ensures.value c.index-in-Moved.ensures c.next_keeps_arrays-keeps.ensures did.comes c.cells_after-cells.ensures in
    moved_turn c.args.code.now c.args.tables.now s.room some c.args.rank c.in-Moved.posted (max (get_or s.peak.items c.args.rank 0) c.cells_after-cells.result) x y s.ranks.items s.queues c.act.new.queues s.out.items c.act.new.out.items s.trap s.moves.items s.words.items s.peak.items c.count.new.moves.items c.count.new.words.items c.count.new.peak.items
    s.sound c.requires.among is c.requires.going did counted c.count.ensures.moves c.count.ensures.words c.count.ensures.peak

pub returns-in-Moved-clause-deed : goal.returns-in-Moved-clause-deed
returns-in-Moved-clause-deed c = λ some.
    let s = c.args.self.now in
    let x = c.index_mut.result.now.store in
    let y = c.act.new.rank in
    let is = rank_read s.ranks.items c.args.rank c.index_mut.result.now c.requires.among c.index_mut.ensures.value in
    let did = subst (λ d. Comes (machine c.args.code.now c.args.tables.now (at_most s.room some)) (act c.args.code.now c.args.tables.now x) d c.args.rank x y.store s.queues c.act.new.queues s.out.items c.act.new.out.items) c.in-Moved.is (c.in_ok-act.ensures.did some) in
    (ap trap_of c.requires.going, moved_idles c.args.code.now c.args.tables.now s.room some c.args.rank c.in-Moved.posted x y.store s.ranks.items s.queues c.act.new.queues s.out.items c.act.new.out.items s.trap s.moves.items s.words.items s.peak.items s.sound c.requires.among is c.requires.going did)
