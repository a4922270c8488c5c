use Rattle.hp_snippet.proofs.Exchanges.{exchange_by, exchange_stops, jump_by, together_by, together_stops, write_by}
use Rattle.hp_snippet.proofs.Leading.{ways_join}
use Rattle.hp_snippet.proofs.Outcomes.{layout_each}
use Rattle.hp_snippet.proofs.Ranges.{ranges_move}
use Rattle.hp_snippet.proofs.laws.snippet_laws.Goals as goal

pub returns-clause-joins : goal.returns-clause-joins
returns-clause-joins c = ways_join

pub returns-clause-together : goal.returns-clause-together
returns-clause-together c = together_by

pub returns-clause-trips : goal.returns-clause-trips
returns-clause-trips c = together_stops

pub returns-clause-jumps : goal.returns-clause-jumps
returns-clause-jumps c = jump_by

pub returns-clause-layout : goal.returns-clause-layout
returns-clause-layout c = layout_each

pub returns-clause-exchange : goal.returns-clause-exchange
returns-clause-exchange c = exchange_by

pub returns-clause-stops : goal.returns-clause-stops
returns-clause-stops c = exchange_stops

pub returns-clause-writes : goal.returns-clause-writes
returns-clause-writes c = write_by

pub returns-clause-ranges : goal.returns-clause-ranges
returns-clause-ranges c = ranges_move
