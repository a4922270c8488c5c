use Rattle.std.proofs.Common.{◌*◌, rules}
use Rattle.hp_machine.proofs.StartLemmas.{list_length, start_sound, start_state}
use Rattle.hp_machine.proofs.machine.Machine.new.Goals as goal

pub invariant_of-result : goal.invariant_of-result
invariant_of-result c =
    record {
      sound = start_sound c.args.code.now c.args.ranks c.args.room c.in_ok-list.list.items c.in_ok-queues.queues c.in_ok-moves.moves.items c.in_ok-words.words.items c.in_ok-peak.peak.items
          c.in_ok-list.ensures c.in_ok-queues.ensures c.in_ok-moves.ensures c.in_ok-words.ensures c.in_ok-peak.ensures c.requires.some c.requires.few c.requires.least c.requires.most;
    }

pub returns-clause-state : goal.returns-clause-state
returns-clause-state c =
    start_state c.args.code.now c.args.ranks c.in_ok-list.list.items c.in_ok-queues.queues (c.args.ranks * c.args.ranks * c.args.room) c.new-out.result.items c.in_ok-moves.moves.items c.in_ok-words.words.items c.in_ok-peak.peak.items
    c.in_ok-list.ensures c.in_ok-queues.ensures (search rules) c.in_ok-moves.ensures c.in_ok-words.ensures c.in_ok-peak.ensures

pub returns-clause-ranks : goal.returns-clause-ranks
returns-clause-ranks c = list_length c.args.code.now c.args.ranks c.in_ok-list.list.items c.in_ok-list.ensures
