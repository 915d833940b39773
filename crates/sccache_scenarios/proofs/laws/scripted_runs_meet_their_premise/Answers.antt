use Rattle.wrap.specs.Whole.{accounts_at}
use Rattle.sccache_scenarios.proofs.RunLemmas.{calls_scripted, run_meets}
use Rattle.sccache_scenarios.proofs.laws.scripted_runs_meet_their_premise.Goals as goal

pub returns-clause-accounts : goal.returns-clause-accounts
returns-clause-accounts g c = run_meets c.records_fix_scripted_outcomes.ensures.equal

pub returns-clause-calls : goal.returns-clause-calls
returns-clause-calls g c = λ digest_of settings calls all.
    let files = g.F.Files in
    let tool = g.T.Preprocessor in
    run_meets c.records_fix_scripted_outcomes.ensures.equal digest_of settings (accounts_at settings files tool calls) (calls_scripted settings files tool calls all)
