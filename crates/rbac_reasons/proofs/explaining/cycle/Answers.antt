use Rattle.std.proofs.Common.{rules}
use Rattle.rbac_reasons.proofs.ExplanationLemmas.{chain_leads, some_chain_leads}
use Rattle.rbac_reasons.proofs.explaining.cycle.Goals as goal

pub returns : goal.returns
returns c =
    chain_leads c.args.policy.now c.invariants.ensures c.args.ascendant.now c.args.descendant.now c.requires c.in-Some.chain
    (rw (c.in-Some.is, c.in_ok-starts.ensures, c.in_ok-goals.ensures, c.declarations.ensures) at c.in_ok-chain.ensures.found)

pub unreachable-requires : goal.unreachable-requires
unreachable-requires c =
    some_chain_leads c.args.policy.now c.invariants.ensures c.args.ascendant.now c.args.descendant.now c.requires
    (rw (c.in_ok-starts.ensures, c.in_ok-goals.ensures, c.declarations.ensures) at c.in_ok-chain.ensures.none (search rules))
