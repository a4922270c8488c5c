use Rattle.hp_spmd.proofs.Forms.{leads_join, sizes_join}
use Rattle.hp_spmd.proofs.LockActs.{exchange_acts, local_acts}
use Rattle.hp_spmd.proofs.LockStrides.{exchanges_run}
use Rattle.hp_spmd.proofs.ShareNext.{next_shared}
use Rattle.hp_spmd.proofs.laws.program_laws.Goals as goal

pub returns-clause-joins : goal.returns-clause-joins
returns-clause-joins c = leads_join

pub returns-clause-sizes : goal.returns-clause-sizes
returns-clause-sizes c = sizes_join

pub returns-clause-exchanges : goal.returns-clause-exchanges
returns-clause-exchanges c = exchanges_run

pub returns-clause-local : goal.returns-clause-local
returns-clause-local c = local_acts

pub returns-clause-acts : goal.returns-clause-acts
returns-clause-acts c = exchange_acts

pub returns-clause-shares : goal.returns-clause-shares
returns-clause-shares c = next_shared
