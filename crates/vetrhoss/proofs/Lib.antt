mod NewImages
mod UsimAnswers
