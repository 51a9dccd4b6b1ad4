mod CallLaws
mod OneAnswer
mod OneCall
