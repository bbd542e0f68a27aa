use Rattle.second_pass.proofs.LeadBack.{no_other_links, part6_links, part_links, query_links, request_links, segment_links}
use Rattle.second_pass.proofs.laws.links_lead_back.Goals as goal

pub returns-clause-requests : goal.returns-clause-requests
returns-clause-requests c = request_links

pub returns-clause-queries : goal.returns-clause-queries
returns-clause-queries c = query_links

pub returns-clause-parts : goal.returns-clause-parts
returns-clause-parts c = part_links

pub returns-clause-parts6 : goal.returns-clause-parts6
returns-clause-parts6 c = part6_links

pub returns-clause-segments : goal.returns-clause-segments
returns-clause-segments c = segment_links

pub returns-clause-no_others : goal.returns-clause-no_others
returns-clause-no_others c = no_other_links
