use Rattle.std.proofs.Common.{rules, sym, ◌∙◌}
use Rattle.std.proofs.lemmas.Iterator.Adapters.{YieldsList-from_rev_slice, option_map_id}
use Rattle.std.proofs.lemmas.Iterator.Consumers.{YieldsList-from_copied}
use Rattle.std.proofs.lemmas.Iterator.Search.{find_from_yields_List}
use Rattle.tables.proofs.memory.FactsLaws.{last_is_first}
use Rattle.facts.proofs.tokens.last.Goals as goal

pub returns : goal.returns
returns g c test tells =
    sym (option_map_id c.find.result)
    ∙ find_from_yields_List test _ _ c.find.result c.find.ensures.ran
    (YieldsList-from_copied (YieldsList-from_rev_slice c.args.numbers.now cc)) (λ x b q k. search (rules, tells))
    ∙ last_is_first test c.args.numbers.now
