use Rattle.schema.proofs.Few.{root_listed, few_each, few_fields}
use Rattle.schema.proofs.listing.elements_of.Goals as goal

pub returns-clause-elements_are : goal.returns-clause-elements_are
returns-clause-elements_are c = root_listed _ _ _ c.in_ok-root.root c.args.fields.now c.new-elements.ensures.items c.in_ok-push.ensures.items c.in_ok-root.ensures.element_is c.in_ok-push_listings.ensures.adds

pub root_element-requires : goal.root_element-requires
root_element-requires c = few_fields c.args.fields.now c.requires.valid c.requires.within

pub push_listings-requires-clause-few : goal.push_listings-requires-clause-few
push_listings-requires-clause-few c = few_each 0 _ c.requires.valid c.requires.within
